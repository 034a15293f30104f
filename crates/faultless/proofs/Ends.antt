-- How an account ends, each way of reading a part in turn: behind a fault nothing is told (`one_fault`), and an early end has the file's length (`early_end`). Items go by
-- induction on the fuel, with the tests split by `by_test` and the rows by `answers`.
use Prim.Native.Nat.{ℕ, zero, suc, ◌+◌, ◌-◌, ◌≤◌, min}
use native.Mathlib.Omega.{arith}
use mathlib.Core.Path.{◌≡◌, refl, ap, subst}
use mathlib.Core.Bool.{cond}
use mathlib.Core.List.{List, [], ◌∷◌, ◌++◌}
use lib.ListN.{length, drop, length-append, length-drop}
use lib.Dec.{eqb, ltb}
use borrow.Author.Tests.{ltb-false}
use Rattle.std.specs.Prelude.{Option, Some, None}
use Rattle.table_rules.proofs.Laws.{answers}
use Rattle.event_rules.specs.Event.{event_size, sequence}
use Rattle.reading_rules.specs.Parts.{opening_cpu, opening_rows, header_rows, closing_rows}
use Rattle.reading_rules.specs.Account.{Told, Head, Stretch, Counts, Faulty, Account, fault_at, early, read_after, read_closing, read_payload, items_up_to, read_items, read_opening, account_of}
use Rattle.reading_rules.specs.declared.Fault.{Fault}
use Rattle.reading_rules.specs.declared.Fault.TheVariants as fault
use Rattle.reading_rules.proofs.Cases.{by_test}
use Rattle.faultless.specs.Fault.{OneFault, EarlyEnd}

-- behind the first fault nothing is told, and then the end says nothing
abbrev pub LastFault : List Told → Option ℕ → Type 0
LastFault [] end = Unit {0}
LastFault (Head h ∷ rest) end = LastFault rest end
LastFault (Stretch at size ∷ rest) end = LastFault rest end
LastFault (Counts handed missed ∷ rest) end = LastFault rest end
LastFault (Faulty kind at ∷ rest) end = (rest ≡ []) × (end ≡ None)

-- what an account of the bytes from a place on ends in, where the file has `size` bytes
record Ends (size : ℕ) (x : Account) : Type 0 where
  last : LastFault x.reports x.end
  late : (place : ℕ) → x.end ≡ Some place → place ≡ size

never : {A : Type 0} (place : ℕ) → None ≡ Some place → A
never place e = let z : ◌≡◌ {A = ℕ} 0 1 = cc in absurd (omega arith)

module _ (size : ℕ) where
  fault_ends : (at : ℕ) (kind : Fault) → Ends size (fault_at at kind)
  fault_ends at kind = record { last = (refl, refl); late = λ place e. never place e }

  early_ends : (at : ℕ) (bs : List ℕ) → at + length bs ≡ size → Ends size (early at bs)
  early_ends at bs is =
      record { last = tt; late = λ place e. let same : at + length bs ≡ place = cc in omega arith }

  after_ends : (at : ℕ) (bs : List ℕ) → Ends size (read_after at bs)
  unfolding read_after
  after_ends at bs =
      by_test (Ends size) (eqb (length bs) 0) (λ e. record { last = tt; late = λ place e. never place e }) (λ e. fault_ends at fault.After)

  closing_ends : (at count last : ℕ) (bs : List ℕ) → at + length bs ≡ size → Ends size (read_closing at count last bs)
  unfolding read_closing
  closing_ends at count last bs is =
      let next : Ends size (read_after (at + 24) (drop 24 bs)) = after_ends (at + 24) (drop 24 bs) in
      by_test (Ends size) (ltb (length bs) 24) (λ e. early_ends at bs is)
      (λ e. answers (Ends size) (fault_at at) _ (fault_ends at) (record { last = next.last; late = next.late }) (closing_rows count last bs))

  payload_ends : (at left : ℕ) (bs : List ℕ) (next : Account) → at + length bs ≡ size → (left ≤ length bs → Ends size next)
      → Ends size (read_payload at left bs next)
  unfolding read_payload
  payload_ends at left bs next is then =
      by_test (Ends size) (eqb (min left (length bs)) 0) (λ e. inner) (λ e. record { last = inner.last; late = inner.late })
    where
      inner : Ends size (cond (ltb (length bs) left) (early at bs) next)
      inner = by_test (Ends size) (ltb (length bs) left) (λ e. early_ends at bs is) (λ e. then (ltb-false (length bs) left e))

  items_end : (fuel cpu at count last : ℕ) (bs : List ℕ) → at + length bs ≡ size → Ends size (items_up_to fuel cpu at count last bs)
  unfolding items_up_to
  items_end zero cpu at count last bs is = record { last = tt; late = λ place e. never place e }
  items_end (suc fuel) cpu at count last bs is =
      let left : ℕ = event_size bs - 32 in
      let behind : List ℕ = drop 32 bs in
      by_test (Ends size) (ltb (length bs) 4) (λ e. early_ends at bs is)
      (λ e. by_test (Ends size) (eqb (event_size bs) 0) (λ z. closing_ends at count last bs is)
      (λ z. by_test (Ends size) (ltb (length bs) 32) (λ t. early_ends at bs is)
      (λ t.
      let long : 32 ≤ length bs = ltb-false (length bs) 32 t in
      let rest : Ends size (read_payload (at + 32) left behind (items_up_to fuel cpu (at + 32 + left) (count + 1) (sequence bs) (drop left behind))) =
      payload_ends (at + 32) left behind _ (omega (arith, length-drop 32 bs))
      (λ all. items_end fuel cpu (at + 32 + left) (count + 1) (sequence bs) (drop left behind) (omega (arith, length-drop 32 bs, length-drop left behind))) in
      answers (Ends size) (fault_at at) _ (fault_ends at) (record { last = rest.last; late = rest.late }) (header_rows cpu last bs))))

file_ends : (file : List ℕ) → Ends (length file) (account_of file)
unfolding account_of read_opening read_items
file_ends file =
    let size : ℕ = length file in
    by_test (Ends size) (ltb size 8) (λ e. early_ends size 0 file (omega arith))
    (λ e.
    let long : 8 ≤ size = ltb-false size 8 e in
    answers (Ends size) (fault_at 0) _ (fault_ends size 0)
    (items_end size (suc (length (drop 8 file))) (opening_cpu file) 8 0 0 (drop 8 file) (omega (arith, length-drop 8 file))) (opening_rows file))

pub last_fault : (file : List ℕ) → LastFault (account_of file).reports (account_of file).end
last_fault file = (file_ends file).last

pub nothing_left : {A : Type 0} (xs ys : List Told) (x : Told) → xs ++ (x ∷ ys) ≡ [] → A
nothing_left xs ys x e = let z : length (xs ++ (x ∷ ys)) ≡ 0 = ap length e in absurd (omega (arith, length-append xs (x ∷ ys)))

pub one_fault : OneFault
one_fault file kind place told = found told.before (subst (λ (reports : List Told). LastFault reports (account_of file).end) told.is (last_fault file))
  where
    found : (before : List Told) → LastFault (before ++ (Faulty kind place ∷ told.behind)) (account_of file).end
        → (told.behind ≡ []) × ((account_of file).end ≡ None)
    found [] last = last
    found (Head h ∷ before) last = found before last
    found (Stretch at size ∷ before) last = found before last
    found (Counts handed missed ∷ before) last = found before last
    found (Faulty k p ∷ before) last = nothing_left before told.behind (Faulty kind place) last.0

pub early_end : EarlyEnd
early_end file place e = (file_ends file).late place e
