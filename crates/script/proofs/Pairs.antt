-- Pairs of digits: what a field of them spells, test by test (`passed`), and what is left of it from a pair on (`two_more`).
use Prim.Native.Nat.{ℕ, suc, ◌+◌, ◌*◌, ◌/◌, ◌%◌, ◌≤◌, ◌<◌}
use mathlib.Core.Path.{◌≡◌, refl, ap, ◌∙◌}
use mathlib.Core.Bool.{Bool, true, false, cond}
use mathlib.Core.List.{List, [], ◌∷◌, ◌++◌}
use native.Mathlib.Numerals.{add-one}
use native.Mathlib.Omega.{arith}
use borrow.Author.Tests.{lt-ltb, le-ltb, eq-eqb, ne_eqb, eqb-false, ltb-false}
use Rattle.std.specs.Prelude.{Some, None, is_some, ◌&&◌}
use lib.Dec.{ltb, eqb}
use lib.ListN.{length, drop, get_or, drop_of_length-le}
use lib.Seq.{drop-cons}
use Rattle.script.specs.Hex.{value_of, digit, all_hex, is_dash, spells, unhex, hex_count, hex_bytes, hex_digit, hex_text, hex_field}

-- ---- whether a field spells bytes

module _ (room : ℕ) (field : List ℕ) where
  pub spells_none : length field ≡ 0 → spells room field ≡ false
  unfolding spells
  spells_none e = rw (eq-eqb (length field) 0 e) refl

  pub spells_odd : (length field ≡ 0 → ⊥) → length field % 2 ≡ 1 → spells room field ≡ false
  unfolding spells
  spells_odd ne e = rw (ne_eqb (length field) 0 ne, eq-eqb (length field % 2) 1 e) refl

  pub spells_long : (length field ≡ 0 → ⊥) → (length field % 2 ≡ 1 → ⊥) → room < length field / 2 → spells room field ≡ false
  unfolding spells
  spells_long ne even h = rw (ne_eqb (length field) 0 ne, ne_eqb (length field % 2) 1 even, lt-ltb room (length field / 2) h) refl

  pub spells_digits : (length field ≡ 0 → ⊥) → (length field % 2 ≡ 1 → ⊥) → length field / 2 ≤ room → spells room field ≡ all_hex field
  unfolding spells
  spells_digits ne even h = rw (ne_eqb (length field) 0 ne, ne_eqb (length field % 2) 1 even, le-ltb room (length field / 2) h) refl

-- what a field that spells bytes is
pub record Spelling (room : ℕ) (field : List ℕ) : Type 0 where
  pub even : length field % 2 ≡ 0
  pub fits : length field / 2 ≤ room
  pub digits : all_hex field ≡ true

passed : (e : Bool) {rest : Bool} → cond e false rest ≡ true → (e ≡ false) × (rest ≡ true)
passed true h = absurd cc
passed false h = (refl, h)

both : (t : Bool) {u : Bool} → (t && u) ≡ true → (t ≡ true) × (u ≡ true)
both true h = (refl, h)
both false h = absurd cc

pub spelling : (room : ℕ) (field : List ℕ) → spells room field ≡ true → Spelling room field
unfolding spells
spelling room field h =
    let some = passed (eqb (length field) 0) h in
    let even = passed (eqb (length field % 2) 1) some.1 in
    let fits = passed (ltb room (length field / 2)) even.1 in
    record {
      even = let odd = eqb-false (length field % 2) 1 even.0 in omega arith;
      fits = ltb-false room (length field / 2) fits.0;
      digits = fits.1;
    }

-- ---- how many, and which

module _ (room : ℕ) (field : List ℕ) where
  pub count_dash : is_dash field ≡ true → hex_count room field ≡ Some 0
  unfolding hex_count
  count_dash e = rw e refl

  pub count_spelt : is_dash field ≡ false → spells room field ≡ true → hex_count room field ≡ Some (length field / 2)
  unfolding hex_count
  count_spelt e f = rw (e, f) refl

  pub bytes_dash : is_dash field ≡ true → hex_bytes room field ≡ []
  unfolding hex_bytes
  bytes_dash e = rw e refl

  pub bytes_bad : is_dash field ≡ false → spells room field ≡ false → hex_bytes room field ≡ []
  unfolding hex_bytes
  bytes_bad e f = rw (e, f) refl

  pub bytes_spelt : is_dash field ≡ false → spells room field ≡ true → hex_bytes room field ≡ unhex field
  unfolding hex_bytes
  bytes_spelt e f = rw (e, f) refl

  count_none : is_dash field ≡ false → spells room field ≡ false → hex_count room field ≡ None
  unfolding hex_count
  count_none e f = rw (e, f) refl

unhex_length : (digits : List ℕ) → length (unhex digits) ≡ length digits / 2
unhex_length [] = refl
unhex_length (high ∷ []) = refl
unhex_length (high ∷ low ∷ digits) = omega (arith, unhex_length digits)

module _ (room : ℕ) (field : List ℕ) (n : ℕ) (is : hex_count room field ≡ Some n) where
  by_tests : (t u : Bool) → is_dash field ≡ t → spells room field ≡ u → (length (hex_bytes room field) ≡ n) × (n ≤ room)
  by_tests true u d s =
      let none : 0 ≡ n = cc (count_dash room field d) in
      (ap length (bytes_dash room field d) ∙ none, omega arith)
  by_tests false true d s =
      let half : length field / 2 ≡ n = cc (count_spelt room field d s) in
      (ap length (bytes_spelt room field d s) ∙ unhex_length field ∙ half, omega (arith, (spelling room field s).fits))
  by_tests false false d s = let no : ⊥ = cc (count_none room field d s) in absurd no

  -- a field's bytes are as many as are counted, and there is room for them
  pub counted : (length (hex_bytes room field) ≡ n) × (n ≤ room)
  counted = by_tests (is_dash field) (spells room field) refl refl

-- ---- from pair i on

two_more : (field : List ℕ) (i : ℕ) → 2 * i + 1 < length field
    → drop (2 * i) field ≡ get_or field (2 * i) 0 ∷ get_or field (2 * i + 1) 0 ∷ drop (2 * (i + 1)) field
two_more field i h =
    let next : 2 * i + 1 ≡ suc (2 * i) = omega arith in
    let after : 2 * (i + 1) ≡ suc (suc (2 * i)) = omega arith in
    let second : suc (2 * i) < length field = omega arith in
    rw (next, after, drop-cons field (2 * i) 0 (omega arith), drop-cons field (suc (2 * i)) 0 second) refl

module _ (field : List ℕ) (i : ℕ) where
  pub unhex_turn : 2 * i + 1 < length field
      → unhex (drop (2 * i) field) ≡ ((digit (get_or field (2 * i) 0) * 16 + digit (get_or field (2 * i + 1) 0)) ∷ []) ++ unhex (drop (2 * (i + 1)) field)
  unhex_turn h = rw (two_more field i h) refl

  pub unhex_end : length field ≤ 2 * i → unhex (drop (2 * i) field) ≡ []
  unhex_end h = rw (drop_of_length-le field h) refl

  -- both digits of a pair are digits, and so are those behind it
  pub pair_digits : 2 * i + 1 < length field → all_hex (drop (2 * i) field) ≡ true
      → (is_some (value_of (get_or field (2 * i) 0)) ≡ true) × (is_some (value_of (get_or field (2 * i + 1) 0)) ≡ true) × (all_hex (drop (2 * (i + 1)) field) ≡ true)
  pair_digits h all =
      let high = both (is_some (value_of (get_or field (2 * i) 0))) (rw (two_more field i h) at all) in
      let low = both (is_some (value_of (get_or field (2 * i + 1) 0))) high.1 in
      (high.0, low.0, low.1)

-- the value that was found of a digit
pub digit_is : (byte value : ℕ) → value_of byte ≡ Some value → digit byte ≡ value
digit_is byte value e = rw e refl

-- ---- text of bytes, from byte i on

module _ (bytes : List ℕ) (i : ℕ) where
  pub text_turn : i < length bytes
      → hex_text (drop i bytes) ≡ (hex_digit (get_or bytes i 0 / 16) ∷ hex_digit (get_or bytes i 0 % 16) ∷ []) ++ hex_text (drop (i + 1) bytes)
  text_turn h = rw (add-one, drop-cons bytes i 0 h) refl

  pub text_end : length bytes ≤ i → hex_text (drop i bytes) ≡ []
  text_end h = rw (drop_of_length-le bytes h) refl

pub field_none : (bytes : List ℕ) → length bytes ≡ 0 → hex_field bytes ≡ 45 ∷ []
unfolding hex_field
field_none [] e = refl
field_none (x ∷ xs) e = absurd (omega arith)

pub field_some : (bytes : List ℕ) → (length bytes ≡ 0 → ⊥) → hex_field bytes ≡ hex_text bytes
unfolding hex_field
field_some [] ne = absurd (ne refl)
field_some (x ∷ xs) ne = refl

-- ---- the room that a text takes

pub text_length : (bytes : List ℕ) → length (hex_text bytes) ≡ 2 * length bytes
text_length [] = refl
text_length (x ∷ xs) = omega (arith, text_length xs)

pub field_fits : (room : ℕ) (bytes : List ℕ) → 0 < room → length bytes ≤ room → length (hex_field bytes) ≤ 2 * room
unfolding hex_field
field_fits room [] h g = omega arith
field_fits room (x ∷ xs) h g = omega (arith, text_length (x ∷ xs))
