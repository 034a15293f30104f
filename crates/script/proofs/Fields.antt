-- The parts that `split` gives are the fields: the first is what stands before the first space, and the others are those of what stands behind it.
use Prim.Native.Nat.{ℕ, zero, suc, ◌+◌, ◌-◌, ◌≤◌, ◌<◌}
use mathlib.Core.Path.{◌≡◌, refl, sym, ap, ◌∙◌}
use mathlib.Core.Bool.{Bool, true, false, cond, not}
use mathlib.Core.List.{List, [], ◌∷◌}
use native.Mathlib.Numerals.{add-one, unary_clauses}
use native.Mathlib.Omega.{arith}
use borrow.Author.Tests.{eq-eqb, ne_eqb}
use denote.Ref.{Bor}
use lib.Dec.{eqb}
use lib.ListN.{length, take, drop, get_or, drop_of_length-le}
use lib.Seq.{drop-cons, drop-drop}
use Rattle.std.specs.Prelude.{Option, Some, None, unwrap_or, option_map, ◌&&◌}
use Rattle.std.specs.List.{slice_get, slice_split, onto_first, position_or_len}
use Rattle.std.proofs.lemmas.List.Sums.{sum_by-cons}
use Rattle.script.specs.Field.{up_to, behind, field_of, parts, alike}

-- ---- the first byte of a kind

first_cond : (t : Bool) (p : ℕ) (x : ℕ) (u : List ℕ) → p ≡ length u → cond (not t) (1 + p) 0 ≡ length (cond t [] (x ∷ u))
first_cond true p x u e = refl
first_cond false p x u e = omega (arith, e)

pub up_to_length : (byte : ℕ) (text : List ℕ) → position_or_len (λ x. eqb x byte) text ≡ length (up_to byte text)
up_to_length byte [] = refl
up_to_length byte (x ∷ xs) = first_cond (eqb x byte) (position_or_len (λ y. eqb y byte) xs) x (up_to byte xs) (up_to_length byte xs)

-- ---- fields

abbrev pub split_fields : List ℕ → List (List ℕ)
split_fields line = slice_split (λ byte. eqb byte 32) line

-- part k, or nothing
abbrev pub part : ℕ → List (List ℕ) → List ℕ
part k parts = unwrap_or (slice_get parts k) []

onto : (t : Bool) (x : ℕ) (u : List ℕ) (parts : List (List ℕ)) → slice_get parts 0 ≡ Some u
    → slice_get (cond t ([] ∷ parts) (onto_first x parts)) 0 ≡ Some (cond t [] (x ∷ u))
onto true x u parts e = refl
onto false x u [] e = cc
onto false x u (first ∷ more) e = let same : first ≡ u = cc in rw same refl

first_of : (line : List ℕ) → slice_get (split_fields line) 0 ≡ Some (up_to 32 line)
first_of [] = refl
first_of (x ∷ xs) = onto (eqb x 32) x (up_to 32 xs) (split_fields xs) (first_of xs)

next : (k : ℕ) (t : Bool) (x : ℕ) (u xs : List ℕ) (parts : List (List ℕ)) → slice_get parts 0 ≡ Some u → part (suc k) parts ≡ part k (split_fields (drop (length u + 1) xs))
    → parts ≡ split_fields xs → part (suc k) (cond t ([] ∷ parts) (onto_first x parts)) ≡ part k (split_fields (drop (length (cond t [] (x ∷ u)) + 1) (x ∷ xs)))
next k true x u xs parts some rest is = rw is refl
next k false x u xs [] some rest is = cc
next k false x u xs (first ∷ more) some rest is = simp unary_clauses (simp unary_clauses at rest)

rest_of : (k : ℕ) (line : List ℕ) → part (suc k) (split_fields line) ≡ part k (split_fields (behind 32 line))
unfolding behind
rest_of zero [] = refl
rest_of (suc k) [] = refl
rest_of k (x ∷ xs) = next k (eqb x 32) x (up_to 32 xs) xs (split_fields xs) (first_of xs) (rest_of k xs) refl

-- what a slice that was found, or an empty one, says
pub found_part : (r : Option (Bor (List ℕ))) (none : Bor (List ℕ)) → none.now ≡ [] → (unwrap_or r none).now ≡ unwrap_or (option_map (λ x. x.now) r) []
found_part None none e = e
found_part (Some x) none e = refl

pub part_field : (k : ℕ) (line : List ℕ) → part k (split_fields line) ≡ field_of k line
part_field zero line = ap (λ (o : Option (List ℕ)). unwrap_or o []) (first_of line)
part_field (suc k) line = rest_of k line ∙ part_field k (behind 32 line)

-- ---- by places: the byte at i is taken off, and what is left of a definition from there on is said

module _ (byte : ℕ) (s : List ℕ) (i : ℕ) where
  pub up_to_stop : i < length s → get_or s i 0 ≡ byte → length (up_to byte (drop i s)) ≡ 0
  up_to_stop h e = rw (drop-cons s i 0 h, eq-eqb (get_or s i 0) byte e) refl

  pub up_to_more : i < length s → (get_or s i 0 ≡ byte → ⊥) → length (up_to byte (drop i s)) ≡ suc (length (up_to byte (drop (i + 1) s)))
  up_to_more h ne = rw (add-one, drop-cons s i 0 h, ne_eqb (get_or s i 0) byte ne) refl

  pub up_to_end : length s ≤ i → length (up_to byte (drop i s)) ≡ 0
  up_to_end h = rw (drop_of_length-le s h) refl

taken : (t : Bool) (x : ℕ) (u xs : List ℕ) → u ≡ take (length u) xs → cond t [] (x ∷ u) ≡ take (length (cond t [] (x ∷ u))) (x ∷ xs)
taken true x u xs e = refl
taken false x u xs e = ap (λ (l : List ℕ). x ∷ l) e

up_to_take : (byte : ℕ) (s : List ℕ) → up_to byte s ≡ take (length (up_to byte s)) s
up_to_take byte [] = refl
up_to_take byte (x ∷ xs) = taken (eqb x byte) x (up_to byte xs) xs (up_to_take byte xs)

field_of_none : (k : ℕ) → field_of k [] ≡ []
unfolding behind
field_of_none zero = refl
field_of_none (suc k) = field_of_none k

module _ (s : List ℕ) (at end : ℕ) (found : end ≡ at + length (up_to 32 (drop at s))) where
  pub field_last : take (end - at) (drop at s) ≡ field_of 0 (drop at s)
  field_last =
      let count : end - at ≡ length (up_to 32 (drop at s)) = omega (arith, found) in
      rw count (sym (up_to_take 32 (drop at s)))

  pub field_turn : (left : ℕ) → 0 < left → field_of left (drop at s) ≡ field_of (left - 1) (drop (end + 1) s)
  unfolding behind
  field_turn zero h = absurd (omega arith)
  field_turn (suc k) h =
      let place : end + 1 ≡ at + (length (up_to 32 (drop at s)) + 1) = omega (arith, found) in
      let one : suc k - 1 ≡ k = omega arith in
      rw (one, place, ← drop-drop (length (up_to 32 (drop at s)) + 1) at s) refl

  pub field_missing : (left : ℕ) → 0 < left → end ≡ length s → field_of left (drop at s) ≡ []
  field_missing left h e =
      let past : length s ≤ end + 1 = omega arith in
      field_turn left h ∙ rw (drop_of_length-le s past) (field_of_none (left - 1))

parts_cons : (x : ℕ) (xs : List ℕ) → parts (x ∷ xs) ≡ cond (eqb x 32) 1 0 + parts xs
parts_cons x xs = ap (λ (n : ℕ). n + 1) (sum_by-cons (λ byte. cond (eqb byte 32) 1 0) x xs) ∙ omega arith

module _ (s : List ℕ) (i : ℕ) where
  pub parts_more : i < length s → parts (drop i s) ≡ cond (eqb (get_or s i 0) 32) 1 0 + parts (drop (i + 1) s)
  parts_more h =
      let next : suc i ≡ i + 1 = omega arith in
      ap (λ (l : List ℕ). parts l) (drop-cons s i 0 h)
      ∙ parts_cons (get_or s i 0) (drop (suc i) s)
      ∙ ap (λ (n : ℕ). cond (eqb (get_or s i 0) 32) 1 0 + parts (drop n s)) next

  pub parts_end : length s ≤ i → parts (drop i s) ≡ 1
  parts_end h = rw (drop_of_length-le s h) refl

-- ---- the same bytes, by places

module _ (a b : List ℕ) (i : ℕ) where
  pub alike_more : i < length a → i < length b → get_or a i 0 ≡ get_or b i 0 → alike (drop i a) (drop i b) ≡ alike (drop (i + 1) a) (drop (i + 1) b)
  alike_more f g e = rw (add-one, drop-cons a i 0 f, drop-cons b i 0 g, eq-eqb (get_or a i 0) (get_or b i 0) e) refl

  pub alike_not : i < length a → i < length b → (get_or a i 0 ≡ get_or b i 0 → ⊥) → alike (drop i a) (drop i b) ≡ false
  alike_not f g ne = rw (drop-cons a i 0 f, drop-cons b i 0 g, ne_eqb (get_or a i 0) (get_or b i 0) ne) refl

  pub alike_end : length a ≤ i → length b ≤ i → alike (drop i a) (drop i b) ≡ true
  alike_end f g = rw (drop_of_length-le a f, drop_of_length-le b g) refl

both : (t u : Bool) → u ≡ false → (t && u) ≡ false
both true u e = e
both false u e = refl

pub alike_lengths : (a b : List ℕ) → (length a ≡ length b → ⊥) → alike a b ≡ false
alike_lengths [] [] ne = absurd (ne refl)
alike_lengths [] (y ∷ ys) ne = refl
alike_lengths (x ∷ xs) [] ne = refl
alike_lengths (x ∷ xs) (y ∷ ys) ne = both (eqb x y) (alike xs ys) (alike_lengths xs ys (λ e. ne (ap suc e)))
