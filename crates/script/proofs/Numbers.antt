-- A number is read digit by digit: a digit that goes over to the number leaves the whole as it was (`read_next`).
use Prim.Native.Nat.{ℕ, suc, ◌+◌, ◌-◌, ◌*◌, ◌≤◌, ◌<◌}
use mathlib.Core.Path.{◌≡◌, refl, ap, ◌∙◌}
use mathlib.Core.Bool.{true, false}
use mathlib.Core.List.{List, [], ◌∷◌}
use native.Mathlib.Numerals.{add-one}
use native.Mathlib.Omega.{arith}
use borrow.Author.Tests.{lt-ltb, le-ltb}
use lib.Dec.{eqb}
use lib.ListN.{length, drop, get_or, drop_of_length-le}
use lib.Seq.{drop-cons}
use Rattle.std.specs.Prelude.{Option, Some, None}
use Rattle.script.specs.Number.{digit_on, read_from, leading_zero, read_number, within_most}

-- ---- one digit more

module _ (n byte : ℕ) where
  pub digit_low : byte < 48 → digit_on n byte ≡ None
  unfolding digit_on
  digit_low h = rw (lt-ltb byte 48 h) refl

  pub digit_high : 57 < byte → digit_on n byte ≡ None
  unfolding digit_on
  digit_high h = rw (le-ltb byte 48 (omega arith), lt-ltb 57 byte h) refl

  pub digit_large : 48 ≤ byte → byte ≤ 57 → 18446744073709551616 ≤ n * 10 + (byte - 48) → digit_on n byte ≡ None
  unfolding digit_on
  digit_large f g h = rw (le-ltb byte 48 f, le-ltb 57 byte g, le-ltb (n * 10 + (byte - 48)) 18446744073709551616 h) refl

  pub digit_fits : 48 ≤ byte → byte ≤ 57 → n * 10 + (byte - 48) < 18446744073709551616 → digit_on n byte ≡ Some (n * 10 + (byte - 48))
  unfolding digit_on
  digit_fits f g h = rw (le-ltb byte 48 f, le-ltb 57 byte g, lt-ltb (n * 10 + (byte - 48)) 18446744073709551616 h) refl

-- ---- the digits of a field from the place i on

pub stays_none : (digits : List ℕ) → read_from None digits ≡ None
stays_none [] = refl
stays_none (digit ∷ digits) = stays_none digits

module _ (field : List ℕ) (n i : ℕ) where
  read_next : (p : Option ℕ) → i < length field → digit_on n (get_or field i 0) ≡ p → read_from (Some n) (drop i field) ≡ read_from p (drop (suc i) field)
  read_next p h e = ap (λ (l : List ℕ). read_from (Some n) l) (drop-cons field i 0 h) ∙ ap (λ (x : Option ℕ). read_from x (drop (suc i) field)) e

  pub read_turn : (m : ℕ) → i < length field → digit_on n (get_or field i 0) ≡ Some m → read_from (Some n) (drop i field) ≡ read_from (Some m) (drop (i + 1) field)
  read_turn m h e = rw add-one (read_next (Some m) h e)

  pub read_bad : i < length field → digit_on n (get_or field i 0) ≡ None → read_from (Some n) (drop i field) ≡ None
  read_bad h e = read_next None h e ∙ stays_none (drop (suc i) field)

  pub read_end : length field ≤ i → read_from (Some n) (drop i field) ≡ Some n
  read_end h = rw (drop_of_length-le field h) refl

-- ---- the whole field

pub number_none : (field : List ℕ) → length field ≡ 0 → read_number field ≡ None
unfolding read_number
number_none [] e = refl
number_none (x ∷ xs) e = absurd (omega arith)

pub number_leading : (field : List ℕ) → leading_zero field ≡ true → read_number field ≡ None
unfolding read_number
number_leading [] e = refl
number_leading (x ∷ xs) e = rw e refl

pub number_read : (field : List ℕ) → 0 < length field → leading_zero field ≡ false → read_number field ≡ read_from (Some 0) field
unfolding read_number
number_read [] h e = absurd (omega arith)
number_read (x ∷ xs) h e = rw e refl

pub zero_short : (field : List ℕ) → length field < 2 → leading_zero field ≡ false
unfolding leading_zero
zero_short field h = rw (lt-ltb (length field) 2 h) refl

pub zero_first : (field : List ℕ) → 2 ≤ length field → leading_zero field ≡ eqb (get_or field 0 0) 48
unfolding leading_zero
zero_first field h = rw (le-ltb (length field) 2 h) refl

-- ---- a bound

module _ (most : ℕ) where
  pub within_bad : within_most most None ≡ None
  unfolding within_most
  within_bad = refl

  pub within_above : (n : ℕ) → most < n → within_most most (Some n) ≡ None
  unfolding within_most
  within_above n h = rw (lt-ltb most n h) refl

  pub within_is : (n : ℕ) → n ≤ most → within_most most (Some n) ≡ Some n
  unfolding within_most
  within_is n h = rw (le-ltb most n h) refl
