-- The digits of hex, by the ranges of bytes: of each the tests before it fail and its own holds.
use Prim.Native.Nat.{ℕ, ◌+◌, ◌-◌, ◌≤◌, ◌<◌}
use mathlib.Core.Path.{◌≡◌, refl}
use mathlib.Core.Bool.{true, false}
use mathlib.Core.List.{List}
use native.Mathlib.Numerals.{add-one}
use native.Mathlib.Omega.{arith}
use borrow.Author.Tests.{lt-ltb, le-ltb, eq-eqb, ne_eqb}
use Rattle.std.specs.Prelude.{Option, Some, None, is_some}
use lib.Dec.{eqb}
use lib.ListN.{length, drop, get_or, drop_of_length-le}
use lib.Seq.{drop-cons}
use Rattle.script.specs.Hex.{value_of, all_hex, is_dash, hex_digit}

module _ (byte : ℕ) where
  pub value_low : byte < 48 → value_of byte ≡ None
  unfolding value_of
  value_low h = rw (lt-ltb byte 48 h) refl

  pub value_digit : 48 ≤ byte → byte < 58 → value_of byte ≡ Some (byte - 48)
  unfolding value_of
  value_digit f h = rw (le-ltb byte 48 f, lt-ltb byte 58 h) refl

  pub value_between : 58 ≤ byte → byte < 97 → value_of byte ≡ None
  unfolding value_of
  value_between f h = rw (le-ltb byte 48 (omega arith), le-ltb byte 58 f, lt-ltb byte 97 h) refl

  pub value_letter : 97 ≤ byte → byte < 103 → value_of byte ≡ Some (byte - 87)
  unfolding value_of
  value_letter f h = rw (le-ltb byte 48 (omega arith), le-ltb byte 58 (omega arith), le-ltb byte 97 f, lt-ltb byte 103 h) refl

  pub value_high : 103 ≤ byte → value_of byte ≡ None
  unfolding value_of
  value_high f = rw (le-ltb byte 48 (omega arith), le-ltb byte 58 (omega arith), le-ltb byte 97 (omega arith), le-ltb byte 103 f) refl

some_is : (o : Option ℕ) → (o ≡ None → ⊥) → is_some o ≡ true
some_is None ne = absurd (ne refl)
some_is (Some value) ne = refl

module _ (field : List ℕ) (i : ℕ) where
  pub hex_more : i < length field → (value_of (get_or field i 0) ≡ None → ⊥) → all_hex (drop i field) ≡ all_hex (drop (i + 1) field)
  hex_more h ne = rw (add-one, drop-cons field i 0 h, some_is (value_of (get_or field i 0)) ne) refl

  pub hex_not : i < length field → value_of (get_or field i 0) ≡ None → all_hex (drop i field) ≡ false
  hex_not h e = rw (drop-cons field i 0 h, e) refl

  pub hex_end : length field ≤ i → all_hex (drop i field) ≡ true
  hex_end h = rw (drop_of_length-le field h) refl

pub dash_other : (field : List ℕ) → (length field ≡ 1 → ⊥) → is_dash field ≡ false
unfolding is_dash
dash_other field ne = rw (ne_eqb (length field) 1 ne) refl

pub dash_one : (field : List ℕ) → length field ≡ 1 → is_dash field ≡ eqb (get_or field 0 0) 45
unfolding is_dash
dash_one field e = rw (eq-eqb (length field) 1 e) refl

pub digit_small : (value : ℕ) → value < 10 → hex_digit value ≡ 48 + value
unfolding hex_digit
digit_small value h = rw (lt-ltb value 10 h) refl

pub digit_large : (value : ℕ) → 10 ≤ value → hex_digit value ≡ 87 + value
unfolding hex_digit
digit_large value h = rw (le-ltb value 10 h) refl
