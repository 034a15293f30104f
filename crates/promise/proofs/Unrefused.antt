-- As long as numbers and positions suffice no call is refused: call by call neither 8 nor 9 may be given (`not_given`).
use Prim.Native.Nat.{ℕ, ◌+◌, ◌^◌, ◌≤◌, ◌<◌}
use native.Mathlib.Omega.{arith}
use mathlib.Core.Path.{◌≡◌, sym, subst}
use mathlib.Core.Logic.{inl, inr}
use mathlib.Core.List.{List, [], ◌∷◌, ◌++◌, append-nil}
use Rattle.std.specs.Prelude.{Err}
use Rattle.table_rules.specs.declared.Refusal.{Refusal}
use Rattle.history.specs.Ring.{Numbered, Answer, write}
use Rattle.history.proofs.Ideal.{emit}
use Rattle.history.specs.Ring as answers
use Rattle.history.specs.Calls.{uses, accepts}
use Rattle.history.proofs.Demand2.{one2}
use Rattle.promise.specs.Bytes.{Event, size, taken, Turn, left, made_by}
use Rattle.promise.proofs.Opened.{emitted}
use Rattle.promise.specs.Demand2.{Given, waiting, Unrefused2}
use Rattle.promise.proofs.Demand2.{turn_step}

uses_one : (a : Answer) → uses a ≤ 1
uses_one answers.Done = omega arith
uses_one answers.Dropped = omega arith
uses_one (answers.Refused n) = omega arith

takes_size : (a : Answer) (x : Numbered Event) → taken (accepts a x) ≤ size x.event
takes_size answers.Done x = omega arith
takes_size answers.Dropped x = omega arith
takes_size (answers.Refused n) x = omega arith

not_given : (capacity last w size : ℕ) (t : Turn) (r : Refusal) → last + 1 < 2 ^ 64 → w + size ≤ 2 ^ 62
    → Given capacity last w size (waiting t) (Err r) → ⊥
not_given capacity last w size t r few near (inl g) = omega (arith, g.1)
not_given capacity last w size t r few near (inr g) = omega (arith, g.3)

pub unrefused2 : Unrefused2
unfolding made_by
unrefused2 cpu capacity beginning s h [] few near = tt
unrefused2 cpu capacity beginning s h (t ∷ ts) few near =
    let a = turn_step cpu capacity s beginning t h in
    let m = emit size capacity beginning t.event in
    let one = one2 size capacity beginning t.event h.holding in
    let x : Numbered Event = record { sequence = m.next.last; event = t.event } in
    let stored : write size m.next ≡ write size beginning + taken (accepts m.answer x ++ []) = one.written in
    let more : taken (accepts m.answer x ++ []) ≤ size t.event =
    subst (λ (l : List (Numbered Event)). taken l ≤ size t.event) (sym (append-nil (accepts m.answer x))) (takes_size m.answer x) in (
      λ r e.
          not_given capacity beginning.last (write size beginning) (size t.event) t r (omega arith) (omega arith)
          (subst (Given capacity beginning.last (write size beginning) (size t.event) (waiting t)) e a.given),
      unrefused2 cpu capacity m.next (left (emitted s t)) a.holds ts (omega (arith, one.last, uses_one m.answer)) (omega arith),
    )
