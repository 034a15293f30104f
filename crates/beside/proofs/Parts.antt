-- Lists cut in two, by what stands in front: two fronts of one list, of which one has no more bytes, are one the beginning of the other (`prefixes`); and
-- where sequences rise, a sequence names one event and its place (`same_place`).
use Prim.Native.Nat.{ℕ, ◌≤◌, ◌<◌}
use native.Mathlib.Omega.{arith}
use mathlib.Core.Path.{◌≡◌, refl, sym, ap, ap₂, ◌∙◌, subst}
use mathlib.Core.List.{List, [], ◌∷◌, ◌++◌, tail, append_assoc}
use lib.ListN.{get_or}
use Rattle.run_rules.specs.Runs.{Rising, last_of, total}
use Rattle.run_rules.proofs.Rising.{rising_parts, rising_end, rising_last, last_append}
use Rattle.beside.specs.Beside.{Among, EachAmong}

pub same_head : {A : Type 0} {x y : A} {xs ys : List A} → x ∷ xs ≡ y ∷ ys → x ≡ y
same_head {A = A} {x = x} e = ap (λ (l : List A). get_or l 0 x) e

-- ---- one among others

pub among_more : {A : Type 0} (x : A) (all new : List A) → Among x all → Among x (all ++ new)
among_more {A = A} x all new a = record {
  older = a.older;
  younger = a.younger ++ new;
  split = ap (λ (l : List A). l ++ new) a.split ∙ append_assoc a.older (x ∷ a.younger) new;
}

pub each_more : {A : Type 0} (xs all new : List A) → EachAmong xs all → EachAmong xs (all ++ new)
each_more [] all new h = tt
each_more (x ∷ xs) all new h = (among_more x all new h.0, each_more xs all new h.1)

pub each_one : {A : Type 0} (xs all : List A) (x : A) → EachAmong xs all → Among x all → EachAmong (xs ++ (x ∷ [])) all
each_one [] all x h a = (a, tt)
each_one (y ∷ xs) all x h a = (h.0, each_one xs all x h.1 a)

-- ---- two fronts

module _ {A : Type 0} (size : A → ℕ) (positive : (x : A) → 0 < size x) where
  pub prefixes : (a b c d : List A) → a ++ b ≡ c ++ d → total size a ≤ total size c → (f : List A) × (c ≡ a ++ f) × (b ≡ f ++ d)
  prefixes [] b c d e h = (c, refl, e)
  prefixes (x ∷ a) b [] d e h = absurd (omega (arith, positive x))
  prefixes (x ∷ a) b (y ∷ c) d e h =
      let head : x ≡ y = same_head e in
      let same : size x ≡ size y = ap size head in
      let rest = prefixes a b c d (ap tail e) (omega (arith, same)) in
      (rest.0, ap₂ (λ (z : A) (l : List A). z ∷ l) (sym head) rest.1, rest.2)

-- ---- sequences that rise

module _ {A : Type 0} (number : A → ℕ) where
  -- a later one is higher
  pub rises_to : (low : ℕ) (front : List A) (x : A) (more : List A) → Rising number low (front ++ (x ∷ more)) → low < number x
  rises_to low front x more r = (rising_end number low front (x ∷ more) r).0

  pub same_place : (low : ℕ) (o y p z : List A) (x w : A) → Rising number low (o ++ (x ∷ y)) → o ++ (x ∷ y) ≡ p ++ (w ∷ z) → number x ≡ number w
      → (o ≡ p) × (x ≡ w)
  same_place low [] y [] z x w r e n = (refl, same_head e)
  same_place low [] y (v ∷ p) z x w r e n =
      let first : x ≡ v = same_head e in
      let later : Rising number (number x) (p ++ (w ∷ z)) = subst (λ (l : List A). Rising number (number x) l) (ap tail e) r.1 in
      absurd (omega (arith, rises_to (number x) p w z later, n))
  same_place low (u ∷ o) y [] z x w r e n =
      let first : u ≡ w = same_head e in
      absurd (omega (arith, rises_to (number u) o x y r.1, n, ap number first))
  same_place low (u ∷ o) y (v ∷ p) z x w r e n =
      let head : u ≡ v = same_head e in
      let rest = same_place (number u) o y p z x w r.1 (ap tail e) n in
      (ap₂ (λ (a : A) (l : List A). a ∷ l) head rest.0, rest.1)

  -- what stands in front of what stands in front isn't higher
  pub last_front : (low : ℕ) (a f b : List A) → Rising number low ((a ++ f) ++ b) → last_of number low a ≤ last_of number low (a ++ f)
  last_front low a f b r =
      let parts = rising_parts number low a f (rising_parts number low (a ++ f) b r).0 in
      omega (arith, rising_last number (last_of number low a) f parts.1, last_append number low a f)
