-- A field is read as the number n exactly where it is `decimal n` and n is below 2^64.
use Prim.Native.Nat.{ℕ, ◌+◌, ◌-◌, ◌*◌, ◌≤◌, ◌<◌}
use mathlib.Core.Path.{◌≡◌, refl, sym, ap, ◌∙◌}
use mathlib.Core.Logic.{by_cases}
use mathlib.Core.Bool.{Bool, true, false}
use mathlib.Core.List.{List, [], ◌∷◌}
use native.Mathlib.Decide.{dec_lt}
use native.Mathlib.Omega.{arith}
use borrow.Author.Tests.{eqb-false, ne_eqb}
use lib.ListN.{length, get_or}
use Rattle.text.specs.Decimal.{decimal, read_on, Digits}
use Rattle.text.proofs.Numerals.{decimal_numeral}
use Rattle.text.proofs.Unique.{numeral_decimal, read_on_least}
use Rattle.std.specs.Prelude.{Option, Some, None}
use Rattle.script.specs.Number.{digit_on, read_from, leading_zero, read_number}
use Rattle.script.proofs.Numbers.{digit_low, digit_high, digit_large, digit_fits, stays_none}
use Rattle.script.proofs.Numbers.{number_none, number_leading, number_read, zero_short, zero_first}

not_bad : {n : ℕ} {A : Type 0} → None ≡ Some n → A
not_bad {n} e = absurd cc

-- ---- what was read

record Digit (n byte m : ℕ) : Type 0 where
  low : 48 ≤ byte
  high : byte ≤ 57
  value : m ≡ n * 10 + (byte - 48)
  fits : m < 18446744073709551616

digit_read : (n byte m : ℕ) → digit_on n byte ≡ Some m → Digit n byte m
digit_read n byte m e =
    by_cases (dec_lt byte 48)
    (λ low. not_bad (sym (digit_low n byte low) ∙ e))
    (λ notlow. by_cases (dec_lt 57 byte)
    (λ high. not_bad (sym (digit_high n byte high) ∙ e))
    (λ nothigh. by_cases (dec_lt (n * 10 + (byte - 48)) 18446744073709551616)
    (λ fits.
    let is : Some m ≡ Some (n * 10 + (byte - 48)) = sym e ∙ digit_fits n byte (omega arith) (omega arith) fits in
    let same : m ≡ n * 10 + (byte - 48) = cc in
    record { low = omega arith; high = omega arith; value = same; fits = omega arith })
    (λ large. not_bad (sym (digit_large n byte (omega arith) (omega arith) (omega arith)) ∙ e))))

record Read (n : ℕ) (text : List ℕ) (m : ℕ) : Type 0 where
  digits : Digits text
  value : read_on n text ≡ m
  fits : m < 18446744073709551616

module _ (m : ℕ) where
  read_on_lem : (n x : ℕ) (xs : List ℕ) (p : Option ℕ) → digit_on n x ≡ p → read_from p xs ≡ Some m
      → ((k : ℕ) → k < 18446744073709551616 → read_from (Some k) xs ≡ Some m → Read k xs m) → Read n (x ∷ xs) m
  read_on_lem n x xs None e h on = not_bad (sym (stays_none xs) ∙ h)
  read_on_lem n x xs (Some k) e h on =
      let digit = digit_read n x k e in
      let rest = on k digit.fits h in
      record { digits = (digit.low, digit.high, rest.digits); value = rw (← digit.value) rest.value; fits = rest.fits }

  read_is : (xs : List ℕ) (n : ℕ) → n < 18446744073709551616 → read_from (Some n) xs ≡ Some m → Read n xs m
  read_is [] n h e = let same : n ≡ m = cc in record { digits = tt; value = same; fits = omega arith }
  read_is (x ∷ xs) n h e = read_on_lem n x xs (digit_on n x) refl e (read_is xs)

module _ (n : ℕ) where
  by_leading : (field : List ℕ) (t : Bool) → leading_zero field ≡ t → 0 < length field → read_number field ≡ Some n
      → (field ≡ decimal n) × (n < 18446744073709551616)
  by_leading field true z some e = not_bad (sym (number_leading field z) ∙ e)
  by_leading field false z some e =
      let read = read_is n field 0 (omega arith) (sym (number_read field some z) ∙ e) in (
        numeral_decimal n field record {
          reads = read.value;
          digits = read.digits;
          some = some;
          leads = λ lead. by_cases (dec_lt (length field) 2)
              (λ one. omega arith)
              (λ more. absurd (eqb-false (get_or field 0 0) 48 (sym (zero_first field (omega arith)) ∙ z) lead));
        },
        read.fits,
      )

  pub number_decimal : (field : List ℕ) → read_number field ≡ Some n → (field ≡ decimal n) × (n < 18446744073709551616)
  number_decimal field e =
      by_cases (dec_lt 0 (length field))
      (λ some. by_leading field (leading_zero field) refl some e)
      (λ none. not_bad (sym (number_none field (omega arith)) ∙ e))

-- ---- every number is read back from its text

read_all : (xs : List ℕ) (n : ℕ) → Digits xs → read_on n xs < 18446744073709551616 → read_from (Some n) xs ≡ Some (read_on n xs)
read_all [] n f h = refl
read_all (x ∷ xs) n f h =
    let fits : n * 10 + (x - 48) < 18446744073709551616 = omega (arith, read_on_least (n * 10 + (x - 48)) xs) in
    ap (λ (p : Option ℕ). read_from p xs) (digit_fits n x f.0 f.1 fits) ∙ read_all xs (n * 10 + (x - 48)) f.2 h

no_leading : (n : ℕ) → leading_zero (decimal n) ≡ false
no_leading n =
    by_cases (dec_lt (length (decimal n)) 2)
    (λ one. zero_short (decimal n) one)
    (λ more.
    let first : get_or (decimal n) 0 0 ≡ 48 → ⊥ = λ e. omega (arith, (decimal_numeral n).leads e) in
    zero_first (decimal n) (omega arith) ∙ ne_eqb (get_or (decimal n) 0 0) 48 first)

pub decimal_number : (n : ℕ) → n < 18446744073709551616 → read_number (decimal n) ≡ Some n
decimal_number n h =
    let numeral = decimal_numeral n in
    let fits : read_on 0 (decimal n) < 18446744073709551616 = omega (arith, numeral.reads) in
    number_read (decimal n) numeral.some (no_leading n)
    ∙ read_all (decimal n) 0 numeral.digits fits
    ∙ ap (λ (m : ℕ). Some m) numeral.reads
