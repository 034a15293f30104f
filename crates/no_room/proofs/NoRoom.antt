-- An event of at most the capacity finds room at the latest where none is left to pass; so both walks end alike (`same_up_to`), and all else is asked alike.
use Prim.Native.Nat.{ℕ, zero, suc, ◌+◌, ◌/◌, ◌≤◌, ◌<◌}
use native.Mathlib.Omega.{arith}
use mathlib.Core.Path.{◌≡◌, refl, sym, ap, ◌∙◌}
use mathlib.Core.Logic.{⊎_elim}
use mathlib.Core.Bool.{Bool, true, false, cond}
use mathlib.Core.List.{List, [], ◌∷◌}
use lib.ListN.{length, drop, length-drop}
use lib.Dec.{eqb}
use borrow.Author.Tests.{le-leb, lt-leb, ltb-false, ne_eqb}
use Rattle.table_rules.specs.Table.{first}
use Rattle.table_rules.specs.declared.Refusal.{Refusal}
use Rattle.table_rules.specs.declared.Refusal.TheVariants.{Far}
use Rattle.table_rules.proofs.Laws.{answers_both}
use Rattle.table_rules.proofs.Tests.{either, le_or_lt}
use Rattle.table_rules.proofs.Numbers.{never_twelve, one_refusal}
use Rattle.page_rules.specs.Page.{page_of, page_rows, on_ring}
use Rattle.page_rules.specs.declared.Page.{Page}
use Rattle.event_rules.specs.Event.{event_size, well_formed}
use Rattle.event_rules.specs.Walk.{Aim, walk_up_to, walk_from}
use Rattle.event_rules.proofs.Faults.{wf_size}
use Rattle.look_rules.specs.Live.{live}
use Rattle.writer_rules.specs.declared.Writer.{Writer}
use Rattle.emit_rules.specs.Emit.{AfterEmit, refuse, writer_rows, too_large, dropped, too_far, event_of, placed, emitted_on, emission}
use Rattle.emit_rules.specs.declared.Label.{Label}
use Rattle.no_room.specs.Former.{FormerEmission, ends, no_room, former_up_to, former_walk, leaves, former_end, former_emission}
use Rattle.no_room.specs.NoRoom.{NoRoomNever, SameEmission, TwelveUnused}

-- ---- the walk

module _ (aim : Aim) (small : aim.size ≤ aim.capacity) where
  same_up_to : (bytes : ℕ) (bs : List ℕ) (tail passed : ℕ) → length bs ≤ bytes
      → former_up_to bytes aim bs tail passed ≡ ends (walk_up_to bytes aim bs tail passed)
  unfolding former_up_to walk_up_to
  same_up_to zero bs tail passed h = rw (le-leb (length bs + aim.size) aim.capacity (omega arith))
  same_up_to (suc bytes) bs tail passed h =
      ⊎_elim
      (λ (fits : length bs + aim.size ≤ aim.capacity). rw (le-leb (length bs + aim.size) aim.capacity fits))
      (λ (over : aim.capacity < length bs + aim.size).
      let some : eqb (length bs) 0 ≡ false = ne_eqb (length bs) 0 (λ e. omega arith) in
      ⊎_elim
      (λ (well : well_formed aim.cpu bs ≡ true).
      let s = wf_size aim.cpu bs well in
      rw (lt-leb (length bs + aim.size) aim.capacity over, some, well)
      (same_up_to bytes (drop (event_size bs) bs) (tail + event_size bs) (passed + 1) (simp length-drop (omega arith))))
      (λ (ill : well_formed aim.cpu bs ≡ false). rw (lt-leb (length bs + aim.size) aim.capacity over, some, ill))
      (either (well_formed aim.cpu bs)))
      (le_or_lt (length bs + aim.size) aim.capacity)

  same_walk : (bs : List ℕ) (tail passed : ℕ) → former_walk aim bs tail passed ≡ ends (walk_from aim bs tail passed)
  unfolding former_walk walk_from
  same_walk bs tail passed = same_up_to (length bs) bs tail passed (omega arith)

  never : (bs : List ℕ) (tail passed : ℕ) → former_walk aim bs tail passed ≡ no_room → ⊥
  never bs tail passed e =
      let is : ends (walk_from aim bs tail passed) ≡ no_room = sym (same_walk bs tail passed) ∙ e in
      let z : ◌≡◌ {A = ℕ} 0 1 = cc in omega arith

-- an event that isn't dropped takes half the capacity at most
within : (p : Page) (size : ℕ) → too_large p size ≡ false → size ≤ p.capacity
unfolding too_large
within p size e = omega (arith, ltb-false (p.capacity / 2) size e)

pub no_room_never : NoRoomNever
no_room_never =
    record {
      emit = λ s p h size kept. never _ (within p size kept) (live s p) p.tail_pos 0;
      swap = λ s p h new. never _ (omega arith) (live s p) p.tail_pos 0;
    }

-- ---- the emission

module _ (s : List ℕ) (w : Writer) (label : Label) (payload : List ℕ) where
  abbrev Same : FormerEmission → AfterEmit → Type 0
  Same former now = former ≡ leaves now

  abbrev refused : Refusal → FormerEmission
  refused r = leaves (refuse s w r)

  module _ (p : Page) where
    abbrev size : ℕ
    size = 32 + length payload

    abbrev aim : Aim
    aim = record { cpu = p.cpu_id; capacity = p.capacity; size = size }

    abbrev undropped : FormerEmission
    undropped = first ((too_far p size, Far) ∷ []) refused (former_end s p w (event_of p w label payload) (former_walk aim (live s p) p.tail_pos 0))

    same_placed : size ≤ p.capacity → Same undropped (first ((too_far p size, Far) ∷ []) (refuse s w) (placed s p w label payload))
    unfolding placed
    same_placed small =
        answers_both Same refused (refuse s w) _ _ (λ r. refl)
        (ap (former_end s p w (event_of p w label payload)) (same_walk aim small (live s p) p.tail_pos 0))
        ((too_far p size, Far) ∷ [])

    same_on : Same (first (writer_rows w) refused (cond (too_large p size) (leaves (dropped s w label)) undropped)) (emitted_on s p w label payload)
    unfolding emitted_on
    same_on = answers_both Same refused (refuse s w) _ _ (λ r. refl) (by (too_large p size) refl) (writer_rows w)
      where
        by : (b : Bool) → too_large p size ≡ b
            → Same (cond b (leaves (dropped s w label)) undropped)
            (cond b (dropped s w label) (first ((too_far p size, Far) ∷ []) (refuse s w) (placed s p w label payload)))
        by true e = refl
        by false e = same_placed (within p size e)

pub same_emission : SameEmission
unfolding former_emission emission on_ring
same_emission s w label payload =
    answers_both (Same s w label payload) (refused s w label payload) (refuse s w) _ _ (λ r. refl) (same_on s w label payload (page_of s)) (page_rows s)

pub twelve_unused : TwelveUnused
twelve_unused = record { unused = never_twelve; apart = one_refusal }
