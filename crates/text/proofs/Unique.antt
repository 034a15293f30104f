-- A number has one numeral: its last digit is the remainder by ten, and what stands before that is a numeral of the quotient (`by_quotient`).
use Prim.Native.Nat.{ℕ, ◌+◌, ◌-◌, ◌*◌, ◌/◌, ◌%◌, ◌≤◌, ◌<◌}
use mathlib.Core.Path.{◌≡◌}
use mathlib.Core.List.{List, [], ◌∷◌, ◌++◌}
use native.Mathlib.Omega.{arith}
use lib.ListN.{length-append}
use Rattle.text.specs.Decimal.{decimal, read_on, read_back, Digits, Numeral}
use Rattle.text.proofs.Quotient.{decimal_small, decimal_more, by_quotient}
use Rattle.text.proofs.Numerals.{read_on_last}

-- a text that isn't empty, seen from its end
data Ended : List ℕ → Type 0 where
  ended : (front : List ℕ) (last : ℕ) → Ended (front ++ (last ∷ []))

ended_cons : (x : ℕ) {xs : List ℕ} → Ended xs → Ended (x ∷ xs)
ended_cons x (ended front last) = ended (x ∷ front) last

seen : (x : ℕ) (xs : List ℕ) → Ended (x ∷ xs)
seen x [] = ended [] x
seen x (y ∷ ys) = ended_cons x (seen y ys)

digits_front : (xs ys : List ℕ) → Digits (xs ++ ys) → Digits xs
digits_front [] ys f = tt
digits_front (x ∷ xs) ys f = (f.0, f.1, digits_front xs ys f.2)

digits_behind : (xs ys : List ℕ) → Digits (xs ++ ys) → Digits ys
digits_behind [] ys f = f
digits_behind (x ∷ xs) ys f = digits_behind xs ys f.2

pub read_on_least : (before : ℕ) (xs : List ℕ) → before ≤ read_on before xs
read_on_least before [] = omega arith
read_on_least before (x ∷ xs) = omega (arith, read_on_least (before * 10 + (x - 48)) xs)

module _ (n : ℕ) (quotient : 10 ≤ n → (front : List ℕ) → Numeral (n / 10) front → front ≡ decimal (n / 10)) where
  by_last : (front : List ℕ) (last : ℕ) → Numeral n (front ++ (last ∷ [])) → front ++ (last ∷ []) ≡ decimal n
  by_last [] last numeral =
      let digit : last ≡ 48 + n = omega (arith, numeral.reads, numeral.digits.0) in
      rw (decimal_small n (omega (arith, numeral.digits.1)), digit)
  by_last (x ∷ xs) last numeral =
      let digit = digits_behind (x ∷ xs) (last ∷ []) numeral.digits in
      let front = read_back (x ∷ xs) in
      let sum : front * 10 + (last - 48) ≡ n = rw (read_on_last 0 (x ∷ xs) last) at numeral.reads in
      let lead : x ≡ 48 → ⊥ = λ e. omega (arith, numeral.leads e, length-append xs (last ∷ [])) in
      let above : 48 < x = omega (arith, lead, numeral.digits.0) in
      let large : 0 < front = omega (arith, read_on_least (0 * 10 + (x - 48)) xs) in
      let whole = quotient (omega arith) (x ∷ xs) record {
        reads = omega (arith, digit.0, digit.1);
        digits = digits_front (x ∷ xs) (last ∷ []) numeral.digits;
        some = omega arith;
        leads = λ e. absurd (lead e);
      } in
      let last_digit : last ≡ 48 + n % 10 = omega (arith, digit.0, digit.1) in
      rw (decimal_more n (omega arith), ← whole, last_digit)

  by_end : {text : List ℕ} → Ended text → Numeral n text → text ≡ decimal n
  by_end (ended front last) numeral = by_last front last numeral

  one_numeral : (text : List ℕ) → Numeral n text → text ≡ decimal n
  one_numeral [] numeral = absurd (omega (arith, numeral.some))
  one_numeral (x ∷ xs) numeral = by_end (seen x xs) numeral

pub numeral_decimal : (n : ℕ) (text : List ℕ) → Numeral n text → text ≡ decimal n
numeral_decimal =
    by_quotient
    (λ n. (text : List ℕ) → Numeral n text → text ≡ decimal n)
    (λ n h. one_numeral n (λ large. absurd (omega arith)))
    (λ n h ih. one_numeral n (λ large. ih))
