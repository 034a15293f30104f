-- RULES 10.9: the first place at which two lists differ.
use Rattle.std.specs.Prelude.{ℕ, suc, ◌≤◌, Option, Some, None}
use mathlib.Core.{Path.◌≡◌, Logic.◌≢◌, Logic.◌↔◌, Bool.cond, List.List, List.[], List.◌∷◌}
use lib.{ListN.length, ListN.take, ListN.drop, Dec.eqb}

-- behind one element that both have
abbrev pub one_on : Option ℕ → Option ℕ
one_on None = None
one_on (Some place) = Some (suc place)

-- where one only goes on longer, it is the end of the shorter
unfoldable pub first_difference : List ℕ → List ℕ → Option ℕ
first_difference [] [] = None
first_difference [] (y ∷ ys) = Some 0
first_difference (x ∷ xs) [] = Some 0
first_difference (x ∷ xs) (y ∷ ys) = cond (eqb x y) (one_on (first_difference xs ys)) (Some 0)

-- how many elements the two have alike before they part, or before one ends
unfoldable pub agreeing : List ℕ → List ℕ → ℕ
agreeing [] ys = 0
agreeing (x ∷ xs) [] = 0
agreeing (x ∷ xs) (y ∷ ys) = cond (eqb x y) (suc (agreeing xs ys)) 0

-- one ends and the other goes on, or they go on differently
abbrev pub Part : List ℕ → List ℕ → Type 0
Part [] [] = ⊥
Part [] (y ∷ ys) = Unit {0}
Part (x ∷ xs) [] = Unit {0}
Part (x ∷ xs) (y ∷ ys) = x ≢ y

-- up to the place they agree, and there they don't
pub record PartAt (place : ℕ) (xs ys : List ℕ) : Type 0 where
  pub within : place ≤ length xs
  pub within' : place ≤ length ys
  pub agree : take place xs ≡ take place ys
  pub part : Part (drop place xs) (drop place ys)

-- what is asked of the definition, of any two lists
pub record FirstDifference (xs ys : List ℕ) : Type 0 where
  pub same : (first_difference xs ys ≡ None) ↔ (xs ≡ ys)
  pub differs : (place : ℕ) → (first_difference xs ys ≡ Some place) ↔ PartAt place xs ys
