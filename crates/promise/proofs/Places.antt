-- The place in 10: an inspection's walk stops behind the run that it passes, an emission's in front of the first event that has to go and can't.
use Prim.Native.Nat.{ℕ, zero, suc, ◌+◌, ◌-◌, ◌/◌, ◌^◌, ◌≤◌, ◌<◌}
use native.Mathlib.Omega.{arith}
use mathlib.Core.Path.{◌≡◌, refl, sym, ap, ◌∙◌, subst}
use mathlib.Core.Logic.{⊎_elim}
use mathlib.Core.Bool.{Bool, true, false, not, cond}
use mathlib.Core.List.{List, [], ◌∷◌, ◌++◌}
use lib.ListN.{length, drop, length-append}
use lib.Seq.{drop-append_seam}
use lib.Dec.{eqb, ltb}
use borrow.Author.Tests.{eqb-true, eqb-false}
use Rattle.std.specs.Prelude.{Result, Ok, Err}
use Rattle.table_rules.specs.declared.Refusal.{Refusal}
use Rattle.run_rules.specs.Runs.{Rising, last_of}
use Rattle.table_rules.specs.Table.{first, Stops}
use Rattle.table_rules.specs.declared.Damage.{Damage}
use Rattle.table_rules.specs.declared.Refusal.TheVariants as refusal
use Rattle.table_rules.proofs.Laws.{stops, stopped, first_map}
use Rattle.table_rules.proofs.Tests.{either, le_or_lt}
use Rattle.page_rules.specs.Page.{opened}
use Rattle.page_rules.proofs.Facts.{Sound}
use Rattle.page_rules.specs.declared.Page.{Page}
use Rattle.page_rules.proofs.Sound.{sound}
use Rattle.event_rules.specs.Event.{event_size, sequence, well_formed, reason_of}
use Rattle.event_rules.specs.Run.{joined, passable, reason_after, damage_after, Each, sound_run}
use Rattle.event_rules.specs.Walk.{Walk, ill_at, walk_from}
use Rattle.event_rules.specs.Walk as walks
use Rattle.event_rules.proofs.Facts.{Cut, aimed}
use Rattle.event_rules.proofs.Runs.{after_run, run_cut, cut_run}
use Rattle.event_rules.proofs.Walks.{Ended, walk_ends, walk_damaged}
use Rattle.look_rules.specs.Live.{rest, live}
use Rattle.look_rules.proofs.Laws.{rest_length, live_length, rest_drop}
use Rattle.inspect_rules.specs.Inspect.{walked, surveyed, damaged, damage_found, inspection_row, inspected_on, inspected}
use Rattle.inspect_rules.proofs.Surveys.{damage_is}
use Rattle.inspect_rules.proofs.Answers.{inspected_sound, inspected_whole, inspected_damaged}
use Rattle.writer_rules.specs.Writer.{wrong_writer}
use Rattle.writer_rules.specs.declared.Writer.{Writer}
use Rattle.page_rules.specs.Wake.{need_wake, wakes}
use Rattle.emit_rules.specs.Emit.{AfterEmit, disagrees, event_of, dropped, accepting, acceptance, ended, emitted_on, emission}
use Rattle.emit_rules.specs.Emit.{refuse as emitRefuse}
use Rattle.emit_rules.specs.declared.Label.{Label}
use Rattle.emit_rules.proofs.Cases as emitCases
use Rattle.reader_rules.specs.Reader.{wrong_reader}
use Rattle.reader_rules.specs.Read.{AfterRead, untouched, reading_place, ending, nothing, event_rows, handed_out, next_at, next_opened, read_out}
use Rattle.reader_rules.specs.declared.Reading.{Reading}
use Rattle.reader_rules.specs.declared.Reading.TheVariants as reads
use Rattle.reader_rules.proofs.Cases as readCases
use Rattle.reader_rules.specs.Attach.{not_attached}
use Rattle.reader_rules.specs.declared.Reader.{Reader}
use Rattle.slip_rules.specs.Copy.{AfterCopy, copy_out}
use Rattle.slip_rules.specs.Confirm.{confirm_opened}
use Rattle.slip_rules.specs.AtOnce.{settled, settled_after}
use Rattle.slip_rules.specs.declared.Copying.{Copying}
use Rattle.slip_rules.specs.declared.Copying.TheVariants as copies
use Rattle.slip_rules.proofs.Cases.{copy_on_sound}
use Rattle.slip_rules.proofs.AtOnce.{pair_opened_lem}
use Rattle.follow_rules.specs.Follow.{follow_rows, followed_on, followed}
use Rattle.follow_rules.proofs.Cases as followCases
use Rattle.recording_rules.specs.Recording.{AfterRecord, not_recorded, recording_rows, recorded_on, recorded}
use Rattle.recording_rules.proofs.Cases.{recorded_on_lem}
use Rattle.verification_rules.proofs.Cases.{refused_there}
use Rattle.swap_rules.specs.Swap.{AfterSwap, swap_rows, exchanging, carried_over, exchange_on, exchange}
use Rattle.swap_rules.specs.Swap.{refuse_swap as swapRefuse}
use Rattle.swap_rules.proofs.Cases as swapCases
use Rattle.promise.specs.Demand2.{Acceptable}
use Rattle.promise.specs.Places.{UpTo, Places}
use Rattle.reader_rules.specs.declared.Answered.{Answered}

-- two constructors are never equal
differ : {A : Type 0} → ◌≡◌ {A = ℕ} 0 1 → A
differ z = absurd (let never : ⊥ = omega arith in never)

module _ (s : List ℕ) (p : Page) (is : opened s ≡ Ok p) (d : Damage) where
  abbrev at : ℕ
  at = d.position

  h : Sound s p
  h = sound s p is

  -- ---- the place behind some events

  place_is : (events : List (List ℕ)) → UpTo s p events at → p.tail_pos + length (joined events) ≡ at
  place_is events up =
      omega (arith, ap length up.split ∙ length-append (joined events) (rest s p at), live_length s p, rest_length s p at, up.below, h.order)

  module _ (events : List (List ℕ)) (behind : List ℕ) (split : live s p ≡ joined events ++ behind)
      (here : at ≡ p.tail_pos + length (joined events)) where
    lengths : p.write_pos - p.tail_pos ≡ length (joined events) + length behind
    lengths = sym (live_length s p) ∙ ap length split ∙ length-append (joined events) behind

    behind_is : behind ≡ rest s p at
    unfolding live
    behind_is =
        sym (drop-append_seam (joined events) behind)
        ∙ ap (drop (length (joined events))) (sym split)
        ∙ rest_drop s p p.tail_pos (length (joined events)) (omega (arith, lengths, h.order))
        ∙ ap (rest s p) (sym here)

    up_to : Each p.cpu_id events → 0 < length behind → UpTo s p events at
    up_to each more = record {
      split = split ∙ ap (λ (bs : List ℕ). joined events ++ bs) behind_is;
      each = each;
      below = omega (arith, lengths, h.order);
    }

  -- ---- inspection

  abbrev Told : Type 0
  Told = inspected s ≡ Err (refusal.Damaged d)

  abbrev Stopping : Type 0
  Stopping =
      (events : List (List ℕ)) × UpTo s p events at × Rising sequence 0 events
      × (passable p.cpu_id (last_of sequence 0 events) (rest s p at) ≡ false)
      × (d.reason ≡ reason_after p.cpu_id (last_of sequence 0 events) (rest s p at))

  stopping : Told → Stopping
  unfolding surveyed walked
  stopping e =
      ⊎_elim
      (λ (full : eqb (surveyed s p).stop p.write_pos ≡ true).
      let whole = inspected_whole s p h (eqb-true (surveyed s p).stop p.write_pos full) in
      differ (cc))
      (λ (short : eqb (surveyed s p).stop p.write_pos ≡ false).
      let run : List (List ℕ) = sound_run p.cpu_id 0 (live s p) in
      let behind : List ℕ = after_run p.cpu_id 0 (live s p) in
      let cut : Cut p.cpu_id 0 (live s p) run behind = run_cut p.cpu_id 0 (live s p) in
      let told = inspected_damaged s p h (eqb-false (surveyed s p).stop p.write_pos short) in
      let same : damage_found s p ≡ d = cc in
      let found = sym same ∙ damage_is s p in
      let here : at ≡ (surveyed s p).stop = ap (λ (x : Damage). x.position) found in
      let more : 0 < length behind =
      omega (arith, lengths run behind cut.split here, eqb-false (surveyed s p).stop p.write_pos short, h.order) in (
        run,
        up_to run behind cut.split here cut.whole.0 more,
        cut.whole.1,
        subst (λ (bs : List ℕ). passable p.cpu_id (last_of sequence 0 run) bs ≡ false) (behind_is run behind cut.split here) cut.stops,
        ap (λ (x : Damage). x.reason) found ∙ ap (λ (n : ℕ). reason_after p.cpu_id (last_of sequence 0 run) (rest s p n)) (sym here),
      ))
      (either (eqb (surveyed s p).stop p.write_pos))

  stopped_there : Stopping → Told
  unfolding surveyed walked
  stopped_there (events, up, rises, bad, why) =
      let run : walked s p ≡ events = cut_run (record { split = up.split; whole = (up.each, rises); stops = bad }) in
      let stop : (surveyed s p).stop ≡ at = ap (λ (l : List (List ℕ)). p.tail_pos + length (joined l)) run ∙ place_is events up in
      inspected_damaged s p h (λ (e : (surveyed s p).stop ≡ p.write_pos). omega (arith, up.below, stop, e))
      ∙ ap (λ (x : Damage). Err (refusal.Damaged x)) (damage_is s p)
      ∙ ap (λ (n : ℕ). Err (refusal.Damaged (damage_after p.cpu_id (last_of sequence 0 (walked s p)) n (rest s p n)))) stop
      ∙ ap (λ (l : List (List ℕ)). Err (refusal.Damaged (damage_after p.cpu_id (last_of sequence 0 l) at (rest s p at)))) run
      ∙ ap (λ (n : ℕ). Err (refusal.Damaged (record { position = at; reason = n }))) (sym why)

  -- by the row that swap and follow ask too
  by_row : damaged s p ≡ true → refusal.Damaged (damage_found s p) ≡ refusal.Damaged d → Told
  unfolding inspected_on
  by_row met there = inspected_sound s p h ∙ stops Err _ 0 (inspection_row s p ∷ []) (refusal.Damaged d) (met, there)

  swap_row : (t : List ℕ) (w : Writer) (turn : ℕ) → Stops turn (swap_rows s p t w) (refusal.Damaged d) → Told
  unfolding swap_rows
  swap_row t w zero r = differ (cc r.1)
  swap_row t w (suc zero) r = differ (cc r.1.1)
  swap_row t w (suc (suc zero)) r = differ (cc r.1.1.1)
  swap_row t w (suc (suc (suc zero))) r = by_row r.1.1.1.0 r.1.1.1.1
  swap_row t w (suc (suc (suc (suc zero)))) r = differ (cc r.1.1.1.1.1)
  swap_row t w (suc (suc (suc (suc (suc turn))))) r = absurd r.1.1.1.1.1

  swaps_there : (t : List ℕ) (w : Writer) → (exchange s t w).answer.outcome ≡ Err (refusal.Damaged d) → Told
  unfolding exchange_on carried_over
  swaps_there t w e =
      let row =
      stopped Err (exchanging (wakes (need_wake s))) (swap_rows s p t w) (refusal.Damaged d) (λ r q. cc) (never (wakes (need_wake s)))
      (sym (first_map (λ (a : AfterSwap). a.answer.outcome) (swapRefuse s t w) (carried_over s p t w) (swap_rows s p t w))
      ∙ sym (ap (λ (a : AfterSwap). a.answer.outcome) (swapCases.on_sound s t w p h)) ∙ e) in
      swap_row t w row.0 row.1
    where
      never : (b : Bool) → exchanging b ≡ Err (refusal.Damaged d) → ⊥
      never true q = differ (cc)
      never false q = differ (cc)

  recording_row : (placed turn : ℕ) → Stops turn (recording_rows s p placed) (refusal.Damaged d) → Told
  unfolding recording_rows
  recording_row placed zero r = by_row r.0 r.1
  recording_row placed (suc zero) r = differ (cc r.1.1)
  recording_row placed (suc (suc turn)) r = absurd r.1.1

  records_there : (placed : ℕ) (out : List ℕ) → (recorded s placed out).answer ≡ Err (refusal.Damaged d) → Told
  unfolding recorded_on
  records_there placed out e =
      let row =
      stopped Err _ (recording_rows s p placed) (refusal.Damaged d) (λ r q. cc)
      (λ q. differ (cc))
      (sym (first_map (λ (a : AfterRecord). a.answer) (not_recorded out) _ (recording_rows s p placed))
      ∙ sym (ap (λ (a : AfterRecord). a.answer) (recorded_on_lem s placed out p h)) ∙ e) in
      recording_row placed row.0 row.1

  follow_row : (reader : Reader) (turn : ℕ) → Stops turn (follow_rows s p reader) (refusal.Damaged d) → Told
  unfolding follow_rows
  follow_row reader zero r = differ (cc r.1)
  follow_row reader (suc zero) r = differ (cc r.1.1)
  follow_row reader (suc (suc zero)) r = by_row r.1.1.0 r.1.1.1
  follow_row reader (suc (suc (suc turn))) r = absurd r.1.1.1

  follows_there : (reader : Reader) → (followed s reader).answer ≡ Err (refusal.Damaged d) → Told
  unfolding followed_on
  follows_there reader e =
      let row =
      stopped {A = Result (Unit {0}) Refusal} Err (Ok tt) (follow_rows s p reader) (refusal.Damaged d) (λ r q. cc)
      (λ q. differ (cc))
      (sym (first_map (λ (a : Answered (Unit {0})). a.answer) (not_attached reader) _ (follow_rows s p reader))
      ∙ sym (ap (λ (a : Answered (Unit {0})). a.answer) (followCases.on_sound s reader p h)) ∙ e) in
      follow_row reader row.0 row.1

  -- ---- emission

  module _ (w : Writer) (label : Label) (payload : List ℕ) where
    abbrev size : ℕ
    size = 32 + length payload

    abbrev end : Walk
    end = walk_from (aimed p.cpu_id p.capacity size) (live s p) p.tail_pos 0

    abbrev Stuck : Type 0
    Stuck =
        (wrong_writer w ≡ false) × Acceptable p.capacity w.last p.write_pos size
        × (events : List (List ℕ)) × UpTo s p events at × (p.capacity < p.write_pos + size - at)
        × (well_formed p.cpu_id (rest s p at) ≡ false) × (d.reason ≡ reason_of p.cpu_id (p.write_pos - at) (rest s p at))

    abbrev says : AfterEmit → Type 0
    says a = a.answer.outcome ≡ Err (refusal.Damaged d)

    dropped_says : says (dropped s w label) → Stuck
    unfolding dropped
    dropped_says q = differ (cc)

    -- no other end of the walk says so
    ended_damaged : (x : Walk) → says (ended s p w (event_of p w label payload) x) → x ≡ walks.Damaged d
    unfolding acceptance
    ended_damaged (walks.Damaged damage) q = cc
    ended_damaged (walks.Room tail passed) q = by (disagrees w passed) q
      where
        told : (b : Bool) → accepting b ≡ Err (refusal.Damaged d) → walks.Room tail passed ≡ walks.Damaged d
        told true q = differ (cc)
        told false q = differ (cc)

        by : (b : Bool) → (cond b (emitRefuse s w refusal.Disagree) (acceptance s p w (event_of p w label payload) tail passed)).answer.outcome
            ≡ Err (refusal.Damaged d) → walks.Room tail passed ≡ walks.Damaged d
        by true q = differ (cc)
        by false q = told (wakes (need_wake s)) q

    -- what that end tells of the bytes
    walk_stuck : wrong_writer w ≡ false → Acceptable p.capacity w.last p.write_pos size → end ≡ walks.Damaged d → Stuck
    walk_stuck right fit e =
        let ends = walk_ends p.cpu_id p.capacity size (live s p) p.tail_pos 0 in
        let gone : List (List ℕ) = ends.0 in
        let behind : List ℕ = ends.1 in
        let told : (at ≡ p.tail_pos + length (joined gone)) × (well_formed p.cpu_id behind ≡ false) × (p.capacity < length behind + size)
        × (d.reason ≡ reason_of p.cpu_id (length behind) behind) =
        subst (Ended p.cpu_id p.capacity size p.tail_pos 0 gone behind) e ends.3 in
        let split : live s p ≡ joined gone ++ behind = ends.2.split in
        let is_rest : behind ≡ rest s p at = behind_is gone behind split told.0 in
        let up : UpTo s p gone at = up_to gone behind split told.0 ends.2.each (omega (arith, told.2, fit.1)) in (
          right,
          fit,
          gone,
          up,
          omega (arith, told.2, ap length is_rest ∙ rest_length s p at, up.below),
          ap (well_formed p.cpu_id) (sym is_rest) ∙ told.1,
          told.3 ∙ ap (λ (bs : List ℕ). reason_of p.cpu_id (length bs) bs) is_rest
              ∙ ap (λ (n : ℕ). reason_of p.cpu_id n (rest s p at)) (rest_length s p at),
        )

    emit_stuck : says (emission s w label payload) → Stuck
    emit_stuck q =
        ⊎_elim
        (λ (wrong : wrong_writer w ≡ true). told_by_lem (emitCases.writer_refused s w label payload p wrong) (λ e. differ (cc)))
        (λ (right : wrong_writer w ≡ false).
        ⊎_elim
        (λ (none : eqb w.last (2 ^ 64 - 1) ≡ true).
        told_by_lem (emitCases.spent s w label payload p right (eqb-true w.last (2 ^ 64 - 1) none)) (λ e. differ (cc)))
        (λ (some : eqb w.last (2 ^ 64 - 1) ≡ false).
        let unspent = eqb-false w.last (2 ^ 64 - 1) some in
        ⊎_elim
        (λ (small : size ≤ p.capacity / 2).
        ⊎_elim
        (λ (near : p.write_pos + size ≤ 2 ^ 62).
        told_by_lem (emitCases.is_placed s w label payload p right unspent small near ∙ emitCases.walk_ended s w label payload p end refl)
        (λ e. walk_stuck right (unspent, small, near) (ended_damaged end e)))
        (λ (far : 2 ^ 62 < p.write_pos + size). told_by_lem (emitCases.too_far_lem s w label payload p right unspent small far) (λ e. differ (cc)))
        (le_or_lt (p.write_pos + size) (2 ^ 62)))
        (λ (large : p.capacity / 2 < size). told_by_lem (emitCases.is_dropped s w label payload p right unspent large) dropped_says)
        (le_or_lt size (p.capacity / 2)))
        (either (eqb w.last (2 ^ 64 - 1))))
        (either (wrong_writer w))
      where
        told_by_lem : {a : AfterEmit} → emitted_on s p w label payload ≡ a → (says a → Stuck) → Stuck
        told_by_lem e f = f (subst says (emitCases.on_sound s w label payload p h ∙ e) q)

    emits_there : Stuck → says (emission s w label payload)
    emits_there (right, fit, events, up, over, bad, why) =
        let lengths : length (rest s p at) ≡ p.write_pos - at = rest_length s p at in
        let ends : end ≡ walks.Damaged d =
        ap (λ (bs : List ℕ). walk_from (aimed p.cpu_id p.capacity size) bs p.tail_pos 0) up.split
        ∙ walk_damaged p.cpu_id p.capacity size events (rest s p at) up.each
        (omega (arith, up.below)) bad p.tail_pos 0
        ∙ ap (λ (n : ℕ). ill_at p.cpu_id n (rest s p at)) (place_is events up)
        ∙ ap (λ (n : ℕ). walks.Damaged (record { position = at; reason = reason_of p.cpu_id n (rest s p at) })) lengths
        ∙ ap (λ (n : ℕ). walks.Damaged (record { position = at; reason = n })) (sym why) in
        ap (λ (a : AfterEmit). a.answer.outcome)
        (emitCases.on_sound s w label payload p h
        ∙ emitCases.is_placed s w label payload p right fit.0 fit.1 fit.2
        ∙ emitCases.walk_ended s w label payload p (walks.Damaged d) ends)

  -- ---- reading

  reads_there : (reader : Reader) (out : List ℕ) → (read_out s reader out).answered.answer ≡ Err (refusal.Damaged d)
      → (at ≡ reading_place p reader) × (passable p.cpu_id reader.last (rest s p at) ≡ false)
      × (d.reason ≡ reason_after p.cpu_id reader.last (rest s p at))
  unfolding next_opened next_at event_rows ending first
  reads_there reader out e =
      by (wrong_reader p reader) (eqb reader.read_pos p.write_pos) (eqb place p.write_pos) (eqb p.generation reader.generation)
      (passable p.cpu_id reader.last bs) (ltb (length out) (event_size bs)) refl
      (sym (ap (λ (a : AfterRead). a.answered.answer) (readCases.on_sound s reader out p h)) ∙ e)
    where
      place : ℕ
      place = reading_place p reader

      bs : List ℕ
      bs = rest s p place

      by : (wrong ended stands same passes short : Bool) → passable p.cpu_id reader.last bs ≡ passes
          → (first ((wrong, refusal.Reader) ∷ []) (untouched reader out)
          (cond ended (nothing (cond same (Ok reads.Empty) (Ok reads.Moved)) reader.read_pos reader out)
          (cond stands (nothing (cond same (Ok reads.Empty) (Ok reads.Moved)) place reader out)
          (first ((not passes, refusal.Damaged (damage_after p.cpu_id reader.last place bs)) ∷ (short, refusal.Out) ∷ []) (untouched reader out) (handed_out reader out place bs))))
          ).answered.answer ≡ Err (refusal.Damaged d)
          → (at ≡ place) × (passable p.cpu_id reader.last (rest s p at) ≡ false) × (d.reason ≡ reason_after p.cpu_id reader.last (rest s p at))
      by true ended stands same passes short is e = differ (cc)
      by false true stands true passes short is e = differ (cc)
      by false true stands false passes short is e = differ (cc)
      by false false true true passes short is e = differ (cc)
      by false false true false passes short is e = differ (cc)
      by false false false same true true is e = differ (cc)
      by false false false same true false is e = differ (cc)
      by false false false same false short is e =
          let found : d ≡ damage_after p.cpu_id reader.last place bs = cc in
          let there : at ≡ place = ap (λ (x : Damage). x.position) found in (
            there,
            ap (λ (n : ℕ). passable p.cpu_id reader.last (rest s p n)) there ∙ is,
            ap (λ (x : Damage). x.reason) found ∙ ap (λ (n : ℕ). reason_after p.cpu_id reader.last (rest s p n)) (sym there),
          )

  -- ---- copying: reading's answer is what copying's is as one of reading

  module _ (reader : Reader) (out : List ℕ) where
    abbrev Copies : Type 0
    Copies = (copy_out s reader out).copied.answer ≡ Err (refusal.Damaged d)

    abbrev Reads : Type 0
    Reads = (read_out s reader out).answered.answer ≡ Err (refusal.Damaged d)

    abbrev as_read : Result Copying Refusal → Result Reading Refusal
    as_read a = (settled (confirm_opened p) a (copy_out s reader out).copied.reader).answer

    answers_alike : (read_out s reader out).answered.answer ≡ as_read (copy_out s reader out).copied.answer
    answers_alike =
        ap (λ (a : AfterRead). a.answered.answer) (readCases.on_sound s reader out p h ∙ sym (pair_opened_lem s p reader out h.order))
        ∙ ap (λ (a : AfterCopy). (settled_after (confirm_opened p) a).answered.answer) (sym (copy_on_sound s reader out p h))

    copies_there : Copies → Reads
    copies_there e = answers_alike ∙ ap as_read e

    copies_too : Reads → Copies
    copies_too e = by (copy_out s reader out).copied.answer (sym answers_alike ∙ e)
      where
        by : (a : Result Copying Refusal) → as_read a ≡ Err (refusal.Damaged d) → a ≡ Err (refusal.Damaged d)
        by (Ok (copies.Event slip)) q = differ (cc)
        by (Ok copies.Empty) q = differ (cc)
        by (Ok copies.Moved) q = differ (cc)
        by (Err r) q = cc

pub places : Places
places s p is d = record {
  inspect = (stopping s p is d, stopped_there s p is d);
  swap = swaps_there s p is d;
  follow = follows_there s p is d;
  recording = records_there s p is d;
  verify = λ file. refused_there s file;
  emit = λ w label payload. (
    λ e. let r = emit_stuck s p is d w label payload e in (r.0, r.1, r.2, r.3, omega (arith, r.4), r.5, r.6),
    λ r. emits_there s p is d w label payload (r.0, r.1, r.2, r.3, omega (arith, r.4), r.5, r.6),
  );
  read = λ reader out e. let r = reads_there s p is d reader out e in (omega (arith, r.0), r.1, r.2);
  copy = λ reader out. (copies_there s p is d reader out, copies_too s p is d reader out);
}
