-- Nothing but 10's reason has changed: the operations now and then ask the same tests (`rows`, `ten_among`), and where they part both give 10 at one place.
use Prim.Native.Nat.{ℕ, zero, suc, ◌+◌}
use mathlib.Core.Path.{refl}
use mathlib.Core.Logic.{inl, inr}
use mathlib.Core.Bool.{Bool, true, false, not, cond}
use mathlib.Core.List.{List, [], ◌∷◌, ◌++◌}
use lib.ListN.{length, drop}
use lib.Dec.{eqb, leb, ltb}
use Rattle.std.specs.Prelude.{Ok, Err}
use Rattle.table_rules.specs.Table.{first}
use Rattle.table_rules.specs.declared.Damage.{Damage}
use Rattle.table_rules.specs.declared.Refusal.{Refusal}
use Rattle.table_rules.specs.declared.Refusal.TheVariants as refusal
use Rattle.table_rules.proofs.Laws.{cond_both}
use Rattle.page_rules.specs.Page.{page_of, page_rows, on_ring}
use Rattle.page_rules.specs.declared.Page.{Page}
use Rattle.event_rules.specs.Event.{event_size, well_formed, reason_of}
use Rattle.event_rules.specs.Run.{passable, damage_after}
use Rattle.event_rules.specs.Walk.{Walk, Aim, walk_up_to, walk_from}
use Rattle.event_rules.specs.Walk as walks
use Rattle.look_rules.specs.Live.{rest, live}
use Rattle.writer_rules.specs.Writer.{wrong_writer}
use Rattle.writer_rules.specs.declared.Writer.{Writer}
use Rattle.create_rules.specs.Create.{wrong_size}
use Rattle.emit_rules.specs.Emit.{AfterEmit, refuse, writer_rows, too_large, too_far, event_of, ended, placed, emitted_on, emission}
use Rattle.emit_rules.specs.declared.Label.{Label}
use Rattle.inspect_rules.specs.Inspect.{surveyed, summary, damaged, damage_found, inspected_on, inspected}
use Rattle.reader_rules.specs.Reader.{wrong_reader, miscounted, taken_to}
use Rattle.reader_rules.specs.Attach.{not_attached}
use Rattle.reader_rules.specs.Read.{untouched, reading_place, handed_out, event_rows, next_at, next_opened, read_out}
use Rattle.reader_rules.specs.declared.Reader.{Reader}
use Rattle.follow_rules.specs.Follow.{onward, follow_rows, followed_on, followed}
use Rattle.swap_rules.specs.Swap.{refuse_swap, last_generation, count_differs, carried_over, swap_rows, exchange_on, exchange}
use Rattle.recording_rules.specs.Recording.{recording_of, beyond_end, piece, not_recorded, put_in_front, recording_rows, recorded_on, recorded}
use Rattle.reasons.specs.Before.{place_alone, inspected_before, followed_before, exchange_before, recorded_before, read_before, walk_before, emission_before}
use Rattle.reasons.specs.Before.{ButForReason, WhenTen}

module _ {A : Type 0} (refused : Refusal → A) where
  same : {a : A} → ButForReason refused a a
  same = inl refl

  ten : (damage : Damage) → ButForReason refused (refused (refusal.Damaged damage)) (refused (refusal.Damaged (place_alone damage.position)))
  ten damage = inr (damage, refl, refl)

  -- rows without 10 among them
  rows : (rs : List (Bool × Refusal)) {x y : A} → ButForReason refused x y → ButForReason refused (first rs refused x) (first rs refused y)
  unfolding first
  rows [] h = h
  rows ((test, r) ∷ rs) h = cond_both (ButForReason refused) test same (rows rs h)

  -- rows with 10 between others
  ten_among : (front : List (Bool × Refusal)) (test : Bool) (damage : Damage) (behind : List (Bool × Refusal)) (x : A)
      → ButForReason refused (first (front ++ ((test, refusal.Damaged damage) ∷ behind)) refused x)
      (first (front ++ ((test, refusal.Damaged (place_alone damage.position)) ∷ behind)) refused x)
  unfolding first
  ten_among [] test damage behind x = cond_both (ButForReason refused) test (ten damage) same
  ten_among ((other, r) ∷ front) test damage behind x = cond_both (ButForReason refused) other same (ten_among front test damage behind x)

inspect_alike : (s : List ℕ) → ButForReason Err (inspected s) (inspected_before s)
unfolding inspected inspected_on inspected_before on_ring damage_found
inspect_alike s = let p = page_of s in rows Err (page_rows s) (ten_among Err [] (damaged s p) (damage_found s p) [] (Ok (summary (surveyed s p))))

follow_alike : (s : List ℕ) (reader : Reader) → ButForReason (not_attached reader) (followed s reader) (followed_before s reader)
unfolding followed followed_on follow_rows followed_before on_ring damage_found
follow_alike s reader =
    let p = page_of s in
    rows (not_attached reader) (page_rows s)
    (ten_among (not_attached reader) ((miscounted reader, refusal.Reader) ∷ (leb p.generation reader.generation, refusal.Generation) ∷ [])
    (damaged s p) (damage_found s p) [] (record { answer = Ok tt; reader = taken_to (onward s p reader.last) p.generation reader }))

swap_alike : (s t : List ℕ) (w : Writer) → ButForReason (refuse_swap s t w) (exchange s t w) (exchange_before s t w)
unfolding exchange exchange_on swap_rows exchange_before on_ring damage_found
swap_alike s t w =
    let p = page_of s in
    rows (refuse_swap s t w) (page_rows s)
    (ten_among (refuse_swap s t w) ((wrong_writer w, refusal.Writer) ∷ (wrong_size t, refusal.Size) ∷ (last_generation p, refusal.Generation) ∷ [])
    (damaged s p) (damage_found s p) ((count_differs s p w, refusal.Disagree) ∷ []) (carried_over s p t w))

record_alike : (s : List ℕ) (placed : ℕ) (out : List ℕ) → ButForReason (not_recorded out) (recorded s placed out) (recorded_before s placed out)
unfolding recorded recorded_on recording_rows recorded_before on_ring damage_found
record_alike s placed out =
    let p = page_of s in
    rows (not_recorded out) (page_rows s)
    (ten_among (not_recorded out) [] (damaged s p) (damage_found s p) ((beyond_end s placed, refusal.Reader) ∷ [])
    (put_in_front (piece (recording_of s) placed (length out)) out))

read_alike : (s : List ℕ) (reader : Reader) (out : List ℕ) → ButForReason (untouched reader out) (read_out s reader out) (read_before s reader out)
unfolding read_out next_opened next_at event_rows read_before on_ring
read_alike s reader out =
    let p = page_of s in
    let at = reading_place p reader in
    let bs = rest s p at in
    rows (untouched reader out) (page_rows s)
    (rows (untouched reader out) ((wrong_reader p reader, refusal.Reader) ∷ [])
    (cond_both (ButForReason (untouched reader out)) (eqb reader.read_pos p.write_pos) (same (untouched reader out))
    (cond_both (ButForReason (untouched reader out)) (eqb at p.write_pos) (same (untouched reader out))
    (ten_among (untouched reader out) [] (not (passable p.cpu_id reader.last bs)) (damage_after p.cpu_id reader.last at bs)
    ((ltb (length out) (event_size bs), refusal.Out) ∷ []) (handed_out reader out at bs)))))

-- the walk, told as what an emission leaves
module _ (s : List ℕ) (p : Page) (w : Writer) (event : List ℕ) where
  abbrev left : Walk → AfterEmit
  left = ended s p w event

  ends : (fits well : Bool) (tail passed : ℕ) (now before : Walk) (reason : ℕ) → ButForReason (refuse s w) (left now) (left before)
      → ButForReason (refuse s w)
      (left (cond fits (walks.Room tail passed) (cond well now (walks.Damaged (record { position = tail; reason = reason })))))
      (left (cond fits (walks.Room tail passed) (cond well before (walks.Damaged (place_alone tail)))))
  ends true well tail passed now before reason h = same (refuse s w)
  ends false true tail passed now before reason h = h
  ends false false tail passed now before reason h = ten (refuse s w) (record { position = tail; reason = reason })

  walk_alike : (bytes : ℕ) (aim : Aim) (bs : List ℕ) (tail passed : ℕ)
      → ButForReason (refuse s w) (left (walk_up_to bytes aim bs tail passed)) (left (walk_before bytes aim bs tail passed))
  unfolding walk_up_to walk_before
  walk_alike zero aim bs tail passed =
      let none = walks.Room tail passed in
      ends (leb (length bs + aim.size) aim.capacity) false tail passed none none (reason_of aim.cpu (length bs) bs) (same (refuse s w))
  walk_alike (suc bytes) aim bs tail passed =
      ends (leb (length bs + aim.size) aim.capacity) (well_formed aim.cpu bs) tail passed _ _ (reason_of aim.cpu (length bs) bs)
      (walk_alike bytes aim (drop (event_size bs) bs) (tail + event_size bs) (passed + 1))

emit_alike : (s : List ℕ) (w : Writer) (label : Label) (payload : List ℕ)
    → ButForReason (refuse s w) (emission s w label payload) (emission_before s w label payload)
unfolding emission emitted_on placed walk_from emission_before on_ring
emit_alike s w label payload =
    let p = page_of s in
    let refused : Refusal → AfterEmit = refuse s w in
    rows refused (page_rows s)
    (rows refused (writer_rows w)
    (cond_both (ButForReason refused) (too_large p (32 + length payload)) (same refused)
    (rows refused ((too_far p (32 + length payload), refusal.Far) ∷ [])
    (walk_alike s p w (event_of p w label payload) (length (live s p)) _ (live s p) p.tail_pos 0))))

pub when_ten : WhenTen
when_ten = record { emit = emit_alike; inspect = inspect_alike; read = read_alike; follow = follow_alike; swap = swap_alike; recording = record_alike }
