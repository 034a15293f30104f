-- The definition means what is asked of it: by induction on both lists.
use Prim.Native.Nat.{ℕ, zero, suc}
use native.Mathlib.Omega.{arith}
use mathlib.Core.Path.{◌≡◌, refl, sym, ap, ap₂, subst}
use mathlib.Core.Bool.{Bool, true, false, cond}
use mathlib.Core.List.{List, [], ◌∷◌}
use lib.ListN.{take}
use lib.Dec.{eqb}
use borrow.Author.Tests.{eq-eqb, ne_eqb, eqb-true, eqb-false}
use Rattle.std.specs.Prelude.{Option, Some, None}
use Rattle.difference_rules.specs.Difference.{one_on, first_difference, Part, PartAt, FirstDifference}

never_same : {place : ℕ} → Some place ≡ None → ⊥
never_same e = let z : ◌≡◌ {A = ℕ} 0 1 = cc e in omega arith

-- ---- no difference

further_same : (d : Option ℕ) → one_on d ≡ None → d ≡ None
further_same None e = refl
further_same (Some place) e = absurd (never_same e)

same_equal : (xs ys : List ℕ) → first_difference xs ys ≡ None → xs ≡ ys
unfolding first_difference
same_equal [] [] e = refl
same_equal [] (y ∷ ys) e = absurd (never_same e)
same_equal (x ∷ xs) [] e = absurd (never_same e)
same_equal (x ∷ xs) (y ∷ ys) e = by (eqb x y) refl (same_equal xs ys) e
  where
    by : (b : Bool) → eqb x y ≡ b → (first_difference xs ys ≡ None → xs ≡ ys) → cond b (one_on (first_difference xs ys)) (Some 0) ≡ None → x ∷ xs ≡ y ∷ ys
    by true is tail e = ap₂ (λ (z : ℕ) (zs : List ℕ). z ∷ zs) (eqb-true x y is) (tail (further_same (first_difference xs ys) e))
    by false is tail e = absurd (never_same e)

equal_same : (xs : List ℕ) → first_difference xs xs ≡ None
unfolding first_difference
equal_same [] = refl
equal_same (x ∷ xs) = rw (eq-eqb x x refl) (ap one_on (equal_same xs))

-- ---- a place

at_start : (xs ys : List ℕ) → Part xs ys → PartAt 0 xs ys
at_start xs ys part = record { within = omega arith; within' = omega arith; agree = refl; part = part }

-- behind two elements that are equal
one_on_lem : (x y : ℕ) (xs ys : List ℕ) {place : ℕ} → x ≡ y → PartAt place xs ys → PartAt (suc place) (x ∷ xs) (y ∷ ys)
one_on_lem x y xs ys e h = record {
  within = omega (arith, h.within);
  within' = omega (arith, h.within');
  agree = ap₂ (λ (z : ℕ) (zs : List ℕ). z ∷ zs) e h.agree;
  part = h.part;
}

first_place : {place : ℕ} → Some 0 ≡ Some place → (xs ys : List ℕ) → Part xs ys → PartAt place xs ys
first_place e xs ys part = subst (λ (n : ℕ). PartAt n xs ys) (let z : 0 ≡ _ = cc e in z) (at_start xs ys part)

differs_parts : (xs ys : List ℕ) (place : ℕ) → first_difference xs ys ≡ Some place → PartAt place xs ys
unfolding first_difference
differs_parts [] [] place e = absurd (never_same (sym e))
differs_parts [] (y ∷ ys) place e = first_place e [] (y ∷ ys) tt
differs_parts (x ∷ xs) [] place e = first_place e (x ∷ xs) [] tt
differs_parts (x ∷ xs) (y ∷ ys) place e = by (eqb x y) refl (differs_parts xs ys) e
  where
    further : (d : Option ℕ) → first_difference xs ys ≡ d → ((k : ℕ) → first_difference xs ys ≡ Some k → PartAt k xs ys) → x ≡ y → one_on d ≡ Some place
        → PartAt place (x ∷ xs) (y ∷ ys)
    further None is tail alike e = absurd (never_same (sym e))
    further (Some k) is tail alike e = subst (λ (n : ℕ). PartAt n (x ∷ xs) (y ∷ ys)) (let z : suc k ≡ place = cc e in z) (one_on_lem x y xs ys alike (tail k is))

    by : (b : Bool) → eqb x y ≡ b → ((k : ℕ) → first_difference xs ys ≡ Some k → PartAt k xs ys) → cond b (one_on (first_difference xs ys)) (Some 0) ≡ Some place
        → PartAt place (x ∷ xs) (y ∷ ys)
    by true is tail e = further (first_difference xs ys) refl tail (eqb-true x y is) e
    by false is tail e = first_place e (x ∷ xs) (y ∷ ys) (eqb-false x y is)

parts_differ : (xs ys : List ℕ) (place : ℕ) → PartAt place xs ys → first_difference xs ys ≡ Some place
unfolding first_difference
parts_differ [] [] zero h = absurd h.part
parts_differ [] (y ∷ ys) zero h = refl
parts_differ [] ys (suc place) h = absurd (omega (arith, h.within))
parts_differ (x ∷ xs) [] zero h = refl
parts_differ (x ∷ xs) [] (suc place) h = absurd (omega (arith, h.within'))
parts_differ (x ∷ xs) (y ∷ ys) zero h = rw (ne_eqb x y h.part)
parts_differ (x ∷ xs) (y ∷ ys) (suc place) h =
    let head : x ≡ y = cc h.agree in
    let tails : take place xs ≡ take place ys = cc h.agree in
    rw (eq-eqb x y head)
    (ap one_on (parts_differ xs ys place
    (record { within = omega (arith, h.within); within' = omega (arith, h.within'); agree = tails; part = h.part })))

pub first_difference_lem : (xs ys : List ℕ) → FirstDifference xs ys
first_difference_lem xs ys = record {
  same = (same_equal xs ys, λ e. subst (λ (zs : List ℕ). first_difference xs zs ≡ None) e (equal_same xs));
  differs = λ place. (differs_parts xs ys place, parts_differ xs ys place);
}
