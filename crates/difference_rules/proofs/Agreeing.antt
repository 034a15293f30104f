-- How far two lists agree: each law by induction on both lists, with a case for two elements that are equal and one for two that aren't.
use Prim.Native.Nat.{ℕ, zero, suc, ◌+◌, ◌≤◌, min}
use native.Mathlib.Nat.{zero-add, suc-add}
use native.Mathlib.Omega.{arith}
use mathlib.Core.Path.{◌≡◌, refl, sym, ap, ◌∙◌}
use mathlib.Core.Logic.{◌≢◌, ◌⊎◌, inl, inr, ⊎_elim}
use mathlib.Core.Bool.{Bool, true, false, cond}
use mathlib.Core.List.{List, [], ◌∷◌, ◌++◌}
use lib.ListN.{length, drop, get_or}
use lib.Dec.{eqb}
use borrow.Author.Tests.{eq-eqb, ne_eqb}
use Rattle.std.specs.Prelude.{Some, None}
use Rattle.difference_rules.specs.Difference.{one_on, first_difference, agreeing}
use Rattle.difference_rules.proofs.Facts.{Alike}

heads_alike : (x y : ℕ) (xs ys : List ℕ) → x ≡ y → agreeing (x ∷ xs) (y ∷ ys) ≡ suc (agreeing xs ys)
unfolding agreeing
heads_alike x y xs ys e = rw (eq-eqb x y e)

heads_differ : (x y : ℕ) (xs ys : List ℕ) → x ≢ y → agreeing (x ∷ xs) (y ∷ ys) ≡ 0
unfolding agreeing
heads_differ x y xs ys h = rw (ne_eqb x y h)

-- no more than either has
pub agreeing_within : (xs ys : List ℕ) → (agreeing xs ys ≤ length xs) × (agreeing xs ys ≤ length ys)
unfolding agreeing
agreeing_within [] ys = (omega arith, omega arith)
agreeing_within (x ∷ xs) [] = (omega arith, omega arith)
agreeing_within (x ∷ xs) (y ∷ ys) = by (eqb x y) (agreeing_within xs ys)
  where
    by : (b : Bool) → (agreeing xs ys ≤ length xs) × (agreeing xs ys ≤ length ys)
        → (cond b (suc (agreeing xs ys)) 0 ≤ suc (length xs)) × (cond b (suc (agreeing xs ys)) 0 ≤ suc (length ys))
    by true h = (omega (arith, h.0), omega (arith, h.1))
    by false h = (omega arith, omega arith)

-- counted: behind what is alike one of them ends, or they differ
pub agreeing_is : (xs ys : List ℕ) (n : ℕ) → Alike xs ys n → (min (length xs) (length ys) ≤ n) ⊎ (get_or xs n 0 ≢ get_or ys n 0) → agreeing xs ys ≡ n
unfolding agreeing
agreeing_is [] ys n a end = omega (arith, a.within)
agreeing_is (x ∷ xs) [] n a end = omega (arith, a.within')
agreeing_is (x ∷ xs) (y ∷ ys) zero a end = ⊎_elim (λ h. absurd (omega arith)) (λ h. heads_differ x y xs ys h) end
agreeing_is (x ∷ xs) (y ∷ ys) (suc n) a end =
    heads_alike x y xs ys (a.each 0 (omega arith))
    ∙ ap suc (agreeing_is xs ys n
    (record { within = omega (arith, a.within); within' = omega (arith, a.within'); each = λ k below. a.each (suc k) (omega arith) })
    (⊎_elim (λ h. inl (omega arith)) (λ h. inr h) end))

-- ---- two lists joined

pub past_front : (xs ys zs : List ℕ) → agreeing xs zs ≡ length xs → agreeing (xs ++ ys) zs ≡ length xs + agreeing ys (drop (length xs) zs)
unfolding agreeing
past_front [] ys zs e = sym (zero-add (agreeing ys zs))
past_front (x ∷ xs) ys [] e = absurd (omega arith)
past_front (x ∷ xs) ys (z ∷ zs) e = by (eqb x z) (past_front xs ys zs) e
  where
    by : (b : Bool) → (agreeing xs zs ≡ length xs → agreeing (xs ++ ys) zs ≡ length xs + agreeing ys (drop (length xs) zs)) → cond b (suc (agreeing xs zs)) 0 ≡ suc (length xs)
        → cond b (suc (agreeing (xs ++ ys) zs)) 0 ≡ suc (length xs) + agreeing ys (drop (length xs) zs)
    by true tail e = ap suc (tail (omega arith)) ∙ sym (suc-add (length xs) (agreeing ys (drop (length xs) zs)))
    by false tail e = absurd (omega arith)

pub within_front : (xs ys zs : List ℕ) → agreeing xs zs ≢ length xs → agreeing (xs ++ ys) zs ≡ agreeing xs zs
unfolding agreeing
within_front [] ys zs differ = absurd (differ refl)
within_front (x ∷ xs) ys [] differ = refl
within_front (x ∷ xs) ys (z ∷ zs) differ = by (eqb x z) (within_front xs ys zs) differ
  where
    by : (b : Bool) → (agreeing xs zs ≢ length xs → agreeing (xs ++ ys) zs ≡ agreeing xs zs) → cond b (suc (agreeing xs zs)) 0 ≢ suc (length xs)
        → cond b (suc (agreeing (xs ++ ys) zs)) 0 ≡ cond b (suc (agreeing xs zs)) 0
    by true tail differ = ap suc (tail (λ e. differ (ap suc e)))
    by false tail differ = refl

-- ---- the first difference by it

pub agrees_throughout : (xs ys : List ℕ) → agreeing xs ys ≡ length xs → length xs ≡ length ys → first_difference xs ys ≡ None
unfolding agreeing first_difference
agrees_throughout [] [] e long = refl
agrees_throughout [] (y ∷ ys) e long = absurd (omega arith)
agrees_throughout (x ∷ xs) [] e long = absurd (omega arith)
agrees_throughout (x ∷ xs) (y ∷ ys) e long = by (eqb x y) (λ past. agrees_throughout xs ys past (omega arith)) e
  where
    by : (b : Bool) → (agreeing xs ys ≡ length xs → first_difference xs ys ≡ None) → cond b (suc (agreeing xs ys)) 0 ≡ suc (length xs) → cond b (one_on (first_difference xs ys)) (Some 0) ≡ None
    by true tail e = ap one_on (tail (omega arith))
    by false tail e = absurd (omega arith)

pub agrees_so_far : (xs ys : List ℕ) → (agreeing xs ys ≡ length xs → length xs ≡ length ys → ⊥) → first_difference xs ys ≡ Some (agreeing xs ys)
unfolding agreeing first_difference
agrees_so_far [] [] differ = absurd (differ refl refl)
agrees_so_far [] (y ∷ ys) differ = refl
agrees_so_far (x ∷ xs) [] differ = refl
agrees_so_far (x ∷ xs) (y ∷ ys) differ = by (eqb x y) (agrees_so_far xs ys) differ
  where
    by : (b : Bool) → ((agreeing xs ys ≡ length xs → length xs ≡ length ys → ⊥) → first_difference xs ys ≡ Some (agreeing xs ys))
        → (cond b (suc (agreeing xs ys)) 0 ≡ suc (length xs) → suc (length xs) ≡ suc (length ys) → ⊥)
        → cond b (one_on (first_difference xs ys)) (Some 0) ≡ Some (cond b (suc (agreeing xs ys)) 0)
    by true tail differ = ap one_on (tail (λ e long. differ (ap suc e) (ap suc long)))
    by false tail differ = refl
