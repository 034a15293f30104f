-- Demand 1: each operation's definition is gone through test by test, beside the rows of its table.
use Prim.Native.Nat.{ℕ, ◌+◌, ◌-◌, ◌<◌}
use native.Mathlib.Omega.{arith}
use mathlib.Core.Path.{◌≡◌, refl, sym, ap, ◌∙◌}
use mathlib.Core.Bool.{Bool, true, false, not, ◌&&◌, cond, true≢false}
use mathlib.Core.List.{List, [], ◌∷◌, ◌++◌}
use lib.ListN.{length}
use lib.Dec.{eqb, ltb}
use Rattle.std.specs.Prelude.{Option, Result, Ok, Err}
use Rattle.table_rules.specs.Table.{first}
use Rattle.table_rules.specs.Refusals.{paper_number, paper_name}
use Rattle.table_rules.specs.declared.Refusal.{Refusal}
use Rattle.table_rules.specs.declared.Refusal.TheVariants as refusal
use Rattle.table_rules.proofs.Numbers.{is_numbered}
use Rattle.page_rules.specs.Page.{page_of, page_rows, on_ring}
use Rattle.page_rules.specs.declared.Page.{Page}
use Rattle.page_rules.specs.Fresh.{blank}
use Rattle.page_rules.specs.Wake.{need_wake, wakes}
use Rattle.event_rules.specs.Event.{event_size}
use Rattle.event_rules.specs.Run.{passable, damage_after}
use Rattle.event_rules.specs.Walk.{Walk}
use Rattle.event_rules.specs.Walk as walks
use Rattle.look_rules.specs.Live.{rest}
use Rattle.writer_rules.specs.declared.Writer.{Writer}
use Rattle.create_rules.specs.Create.{wrong_size, create_rows, created, after_create}
use Rattle.emit_rules.specs.Emit as emit
use Rattle.emit_rules.specs.declared.Label.{Label}
use Rattle.emit_rules.specs.declared.Outcome.{Outcome}
use Rattle.emit_rules.specs.declared.Outcome.TheVariants as emits
use Rattle.inspect_rules.specs.Inspect.{surveyed, summary, damage_found, inspection_row, inspected_on, inspected}
use Rattle.inspect_rules.specs.declared.Survey.{Survey}
use Rattle.inspect_rules.specs.declared.Summary.{Summary}
use Rattle.reader_rules.specs.Attach.{not_attached, attached}
use Rattle.reader_rules.specs.Reader.{wrong_reader}
use Rattle.reader_rules.specs.Read.{AfterRead, untouched, reading_place, ending, event_rows, Leaves, next_at, next_opened, reading, read_out}
use Rattle.reader_rules.specs.declared.Reader.{Reader}
use Rattle.reader_rules.specs.declared.Reading.{Reading}
use Rattle.reader_rules.specs.declared.Reading.TheVariants as reads
use Rattle.slip_rules.specs.Copy.{AfterCopy, nothing_copied, copy_ending, copying, copy_out}
use Rattle.slip_rules.specs.Confirm.{not_confirmed, wrong_slip, gone, confirm_opened, confirmed}
use Rattle.slip_rules.specs.declared.Copying.{Copying}
use Rattle.slip_rules.specs.declared.Copying.TheVariants as copies
use Rattle.slip_rules.specs.declared.Confirming.{Confirming}
use Rattle.follow_rules.specs.Follow.{follow_rows, followed_on, followed}
use Rattle.swap_rules.specs.Swap.{AfterSwap, refuse_swap, exchanging, swap_rows, carried_over, exchange_on, exchange}
use Rattle.swap_rules.specs.declared.SwapOutcome.{SwapOutcome}
use Rattle.swap_rules.specs.declared.SwapOutcome.TheVariants as swaps
use Rattle.recording_rules.specs.Recording.{AfterRecord, not_recorded, beyond_end, recording_rows, recorded_on, recorded}
use Rattle.verification_rules.specs.Verify.{verified_on, verified}
use Rattle.console_rules.specs.Console.{call_number, answered_number, emitted_number, is_refused, record_of, record_after}
use Rattle.console_rules.specs.Console.{Called, refused_call, record_rows, emit_call}
use Rattle.console_rules.proofs.Header.{told_by_lem}
use Rattle.refusals.specs.Demand1.{Asked, no_damage, walk_table, walk_damage, emit_table, inspect_table, Demand1}
use Rattle.refusals.proofs.Rows.{Outcomes, refused, Fits, Other, refuses, says, past, either, ask, asks, asked}
use Rattle.reader_rules.specs.declared.Answered.{Answered}

-- ---- what C is told too: for any way to tell an answer by which no other one is a refusal's

module _ {A : Type 0} (say : Result (Unit {0}) Refusal → A) (done : (r : Refusal) → say (Ok tt) ≡ say (Err r) → ⊥) (cpu : ℕ) (s : List ℕ) where
  abbrev creations : Outcomes ((Result (Unit {0}) Refusal) × List ℕ) A
  creations = record { answer = λ x. say x.0; refuse = λ r. (Err r, s); as_came = λ x. x.1 ≡ s; keep = λ r. refl }

  create_fits : Fits creations ((wrong_size s, say (Err refusal.Size)) ∷ (true, say (Ok tt)) ∷ []) (created s, after_create cpu s)
  unfolding created after_create create_rows first
  create_fits = by (wrong_size s)
    where
      by : (b : Bool)
          → Fits creations ((b, say (Err refusal.Size)) ∷ (true, say (Ok tt)) ∷ [])
          (cond b (Err refusal.Size) (Ok tt), cond b s (blank cpu (length s - 8192) 1))
      by true = refuses creations refusal.Size
      by false = past creations (says creations refl done)

  create_asked : Asked (λ r. say (Err r)) no_damage (λ refusal. (wrong_size s, refusal 16) ∷ (true, say (Ok tt)) ∷ []) (say (created s))
      (after_create cpu s ≡ s)
  create_asked = asked creations create_fits

module _ {A : Type 0} (say : Result Summary Refusal → A) (whole : (v : Summary) (r : Refusal) → say (Ok v) ≡ say (Err r) → ⊥) (s : List ℕ) where
  abbrev inspections : Outcomes (Result Summary Refusal) A
  inspections = record { answer = say; refuse = Err; as_came = λ x. Unit {0}; keep = λ r. tt }

  abbrev v : Survey
  v = surveyed s (page_of s)

  inspect_fits : Fits inspections (inspect_table s (say (Ok (summary v))) (λ n. say (Err (paper_name (damage_found s (page_of s)) n)))) (inspected s)
  unfolding on_ring inspected inspected_on page_rows
  inspect_fits = asks inspections (page_rows s) (asks inspections (inspection_row s (page_of s) ∷ []) (says inspections refl (whole (summary v))))

  inspect_asked : Asked (λ r. say (Err r)) (damage_found s (page_of s)) (inspect_table s (say (Ok (summary v)))) (say (inspected s)) (Unit {0})
  inspect_asked = asked inspections inspect_fits

module _ {A : Type 0} (say : Result Outcome Refusal → A) (other : (e : Result Outcome Refusal) → is_refused e ≡ false → (r : Refusal) → say e ≡ say (Err r) → ⊥)
    (s : List ℕ) (w : Writer) (as_came : emit.AfterEmit → Type 0) (keep : (r : Refusal) → as_came (emit.refuse s w r)) where
  abbrev emissions : Outcomes emit.AfterEmit A
  emissions = record { answer = λ x. say x.answer.outcome; refuse = emit.refuse s w; as_came = as_came; keep = keep }

  accepted : (b : Bool) → say (emit.accepting b) ≡ cond b (say (Ok emits.Wake)) (say (Ok emits.Done))
  accepted true = refl
  accepted false = refl

  ended_fits : (p : Page) (event : List ℕ) (end : Walk)
      → Fits emissions
      (walk_table w end (λ n. say (Err (paper_name (walk_damage end) n))) ++ ((wakes (need_wake s), say (Ok emits.Wake)) ∷ (true, say (Ok emits.Done)) ∷ []))
      (emit.ended s p w event end)
  unfolding emit.acceptance first
  ended_fits p event (walks.Damaged damage) = refuses emissions (refusal.Damaged damage)
  ended_fits p event (walks.Room tail passed) =
      asks emissions ((emit.disagrees w passed, refusal.Disagree) ∷ [])
      (either emissions (wakes (need_wake s)) (accepted (wakes (need_wake s))) (other (Ok emits.Wake) refl) (other (Ok emits.Done) refl))

  emit_fits : (label : Label) (payload : List ℕ)
      → Fits emissions
      (emit_table s w (32 + length payload) (say (Ok emits.Dropped)) (say (Ok emits.Wake)) (say (Ok emits.Done))
      (λ n. say (Err (paper_name (walk_damage (emit.walk_end s (page_of s) (32 + length payload))) n))))
      (emit.emission s w label payload)
  unfolding on_ring emit.emission emit.emitted_on emit.writer_rows emit.dropped emit.placed page_rows
  emit_fits label payload =
      asks emissions (page_rows s)
      (asks emissions (emit.writer_rows w)
      (ask emissions (emit.too_large (page_of s) (32 + length payload)) refl (other (Ok emits.Dropped) refl)
      (asks emissions ((emit.too_far (page_of s) (32 + length payload), refusal.Far) ∷ [])
      (ended_fits (page_of s) (emit.event_of (page_of s) w label payload) (emit.walk_end s (page_of s) (32 + length payload))))))

  emit_asked : (label : Label) (payload : List ℕ)
      → Asked (λ r. say (Err r)) (walk_damage (emit.walk_end s (page_of s) (32 + length payload)))
      (emit_table s w (32 + length payload) (say (Ok emits.Dropped)) (say (Ok emits.Wake)) (say (Ok emits.Done))) (say (emit.emission s w label payload).answer.outcome)
      (as_came (emit.emission s w label payload))
  emit_asked label payload = asked emissions (emit_fits label payload)

-- ---- the numbers that C is told

-- 0, 20 and 21 are no refusal's
free : (n : ℕ) → n < 100 → (paper_number (paper_name no_damage n) ≡ n → ⊥) → (r : Refusal) → n ≡ call_number r → ⊥
free n below differ r = told_by_lem (λ k. n ≡ k → ⊥) r (λ k e. omega arith) (λ other e. differ (is_numbered no_damage r n e))

emitted_free : (e : Result Outcome Refusal) → is_refused e ≡ false → (r : Refusal) → emitted_number e ≡ call_number r → ⊥
emitted_free (Ok emits.Done) is = free 0 (omega arith) (λ e. omega arith)
emitted_free (Ok emits.Wake) is = free 21 (omega arith) (λ e. omega arith)
emitted_free (Ok emits.Dropped) is = free 20 (omega arith) (λ e. omega arith)
emitted_free (Err r) is = absurd (true≢false is)

abbrev calls : (s bytes : List ℕ) → Outcomes Called ℕ
calls s bytes =
    record { answer = λ x. x.answer; refuse = refused_call s bytes; as_came = λ x. (x.ring ≡ s) × (x.kept ≡ bytes); keep = λ r. (refl, refl) }

-- ---- the readers

abbrev attachments : Reader → Outcomes (Answered (Unit {0})) (Result (Unit {0}) Refusal)
attachments reader = record { answer = λ x. x.answer; refuse = not_attached reader; as_came = λ x. x.reader ≡ reader; keep = λ r. refl }

-- what reading and copying ask for the next event, whatever the call leaves of its end and of an event
module _ (s : List ℕ) (reader : Reader) (out : List ℕ) where
  abbrev p : Page
  p = page_of s

  abbrev at : ℕ
  at = reading_place p reader

  abbrev bs : List ℕ
  bs = rest s p at

  abbrev same : Bool
  same = eqb p.generation reader.generation

  module _ {A R : Type 0} (o : Outcomes A R) (ended : ℕ → A) (event : ℕ → List ℕ → A) (empty moved : R) where
    abbrev leaves : Leaves A
    leaves = record { refused = o.refuse; ended = ended; event = event }

    abbrev next_table : List (Bool × R)
    next_table =
        (wrong_reader p reader, refused o refusal.Reader)
        ∷ (eqb reader.read_pos p.write_pos && same, empty) ∷ (eqb reader.read_pos p.write_pos, moved)
        ∷ (eqb at p.write_pos && same, empty) ∷ (eqb at p.write_pos, moved)
        ∷ (not (passable p.cpu_id reader.last bs), refused o (refusal.Damaged (damage_after p.cpu_id reader.last at bs)))
        ∷ (ltb (length out) (event_size bs), refused o refusal.Out)
        ∷ (true, o.answer (event at bs)) ∷ []

    module _ (ends : (place : ℕ) → o.answer (ended place) ≡ cond same empty moved)
        (no-empty : Other o empty) (no-moved : Other o moved) (no_event : Other o (o.answer (event at bs))) where
      end_fits : (place : ℕ) (stands same : Bool) {rows : List (Bool × R)} {x : A} → o.answer (ended place) ≡ cond same empty moved
          → Fits o rows x → Fits o ((stands && same, empty) ∷ (stands, moved) ∷ rows) (cond stands (ended place) x)
      end_fits place true true e fits = says o e no-empty
      end_fits place true false e fits = past o (says o e no-moved)
      end_fits place false same e fits = past o (past o fits)

      next_fits : Fits o next_table (next_opened leaves s p reader out)
      unfolding next_opened next_at event_rows
      next_fits =
          asks o ((wrong_reader p reader, refusal.Reader) ∷ [])
          (end_fits reader.read_pos (eqb reader.read_pos p.write_pos) same (ends reader.read_pos)
          (end_fits at (eqb at p.write_pos) same (ends at)
          (asks o (event_rows p.cpu_id reader out at bs) (says o refl no_event))))

-- ---- every operation

emitted_other : (e : Result Outcome Refusal) → is_refused e ≡ false → (r : Refusal) → e ≡ Err r → ⊥
emitted_other e is r told = true≢false (sym (ap is_refused told) ∙ is)

exchanged : (b : Bool) → exchanging b ≡ cond b (Ok swaps.Wake) (Ok swaps.Done)
exchanged true = refl
exchanged false = refl

pub demand1 : Demand1
unfolding on_ring attached read_out ending copy_out copy_ending confirmed confirm_opened followed followed_on follow_rows exchange exchange_on swap_rows carried_over
    recorded recorded_on recording_rows beyond_end verified verified_on page_rows emit_call record_rows record_after
demand1 =
    record {
      create = create_asked (λ x. x) (λ r e. let z : ◌≡◌ {A = ℕ} 0 1 = cc in omega arith);
      emit = λ s w. emit_asked (λ x. x) emitted_other s w (λ x. (x.ring ≡ s) × (x.answer.writer ≡ w)) (λ r. (refl, refl));
      inspect = inspect_asked (λ x. x) (λ v r e. let z : ◌≡◌ {A = ℕ} 0 1 = cc in omega arith);
      attach =
          λ s reader.
          asked (attachments reader)
          (asks (attachments reader) (page_rows s) (says (attachments reader) refl (λ r e. let z : ◌≡◌ {A = ℕ} 0 1 = cc in omega arith)));
      read =
          λ s reader out.
          let o : Outcomes AfterRead (Result Reading Refusal) =
          record {
            answer = λ x. x.answered.answer;
            refuse = untouched reader out;
            as_came = λ x. (x.answered.reader ≡ reader) × (x.out ≡ out);
            keep = λ r. (refl, refl);
          } in
          let leaves = reading (page_of s) reader out in
          asked o
          (asks o (page_rows s)
          (next_fits s reader out o leaves.ended leaves.event (Ok reads.Empty) (Ok reads.Moved) (λ place. refl)
          (λ r e. let z : ◌≡◌ {A = ℕ} 0 1 = cc in omega arith) (λ r e. let z : ◌≡◌ {A = ℕ} 0 1 = cc in omega arith)
          (λ r e. let z : ◌≡◌ {A = ℕ} 0 1 = cc in omega arith)));
      copy =
          λ s reader out.
          let o : Outcomes AfterCopy (Result Copying Refusal) =
          record {
            answer = λ x. x.copied.answer;
            refuse = nothing_copied reader out;
            as_came = λ x. (x.copied.reader ≡ reader) × (x.out ≡ out);
            keep = λ r. (refl, refl);
          } in
          let leaves = copying (page_of s) reader out in
          asked o
          (asks o (page_rows s)
          (next_fits s reader out o leaves.ended leaves.event (Ok copies.Empty) (Ok copies.Moved) (λ place. refl)
          (λ r e. let z : ◌≡◌ {A = ℕ} 0 1 = cc in omega arith) (λ r e. let z : ◌≡◌ {A = ℕ} 0 1 = cc in omega arith)
          (λ r e. let z : ◌≡◌ {A = ℕ} 0 1 = cc in omega arith)));
      confirm =
          λ s reader slip.
          let o : Outcomes (Answered Confirming) (Result Confirming Refusal) =
          record { answer = λ x. x.answer; refuse = not_confirmed reader; as_came = λ x. x.reader ≡ reader; keep = λ r. refl } in
          let p = page_of s in
          asked o
          (asks o (page_rows s)
          (asks o ((wrong_reader p reader, refusal.Reader) ∷ (wrong_slip p reader slip, refusal.Reader) ∷ [])
          (ask o (gone p slip) refl (λ r e. let z : ◌≡◌ {A = ℕ} 0 1 = cc in omega arith)
          (says o refl (λ r e. let z : ◌≡◌ {A = ℕ} 0 1 = cc in omega arith)))));
      follow =
          λ s reader.
          asked (attachments reader)
          (asks (attachments reader) (page_rows s)
          (asks (attachments reader) (follow_rows s (page_of s) reader)
          (says (attachments reader) refl (λ r e. let z : ◌≡◌ {A = ℕ} 0 1 = cc in omega arith))));
      swap =
          λ s t w.
          let o : Outcomes AfterSwap (Result SwapOutcome Refusal) =
          record {
            answer = λ x. x.answer.outcome;
            refuse = refuse_swap s t w;
            as_came = λ x. (x.old ≡ s) × (x.new ≡ t) × (x.answer.writer ≡ w);
            keep = λ r. (refl, refl, refl);
          } in
          asked o
          (asks o (page_rows s)
          (asks o (swap_rows s (page_of s) t w)
          (either o (wakes (need_wake s)) (exchanged (wakes (need_wake s))) (λ r e. let z : ◌≡◌ {A = ℕ} 0 1 = cc in omega arith)
          (λ r e. let z : ◌≡◌ {A = ℕ} 0 1 = cc in omega arith))));
      recording =
          λ s placed out.
          let o : Outcomes AfterRecord (Result ℕ Refusal) =
          record { answer = λ x. x.answer; refuse = not_recorded out; as_came = λ x. x.out ≡ out; keep = λ r. refl } in
          asked o
          (asks o (page_rows s)
          (asks o (recording_rows s (page_of s) placed) (says o refl (λ r e. let z : ◌≡◌ {A = ℕ} 0 1 = cc in omega arith))));
      verify =
          λ s file.
          let o : Outcomes (Result (Option ℕ) Refusal) (Result (Option ℕ) Refusal) = record { answer = λ x. x; refuse = Err; as_came = λ x. Unit {0}; keep = λ r. tt } in
          asked o
          (asks o (page_rows s)
          (asks o (inspection_row s (page_of s) ∷ []) (says o refl (λ r e. let z : ◌≡◌ {A = ℕ} 0 1 = cc in omega arith))));
      create_call = create_asked answered_number (free 0 (omega arith) (λ e. omega arith));
      emit_call_lem =
          λ s bytes timestamp type class payload.
          asked (calls s bytes)
          (asks (calls s bytes) (record_rows bytes)
          (emit_fits emitted_number emitted_free s (record_of bytes) (λ x. (x.ring ≡ s) × (record_after bytes x.answer ≡ bytes)) (λ r. (refl, refl))
          (record { timestamp = timestamp; event_type = type; origin_class = class }) payload));
      inspect_call = inspect_asked answered_number (λ v. free 0 (omega arith) (λ e. omega arith));
    }
