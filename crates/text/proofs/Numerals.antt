-- `decimal n` is a numeral of n, and how long it is: part by part, each by `by_quotient`.
use Prim.Native.Nat.{ℕ, zero, suc, ◌+◌, ◌-◌, ◌*◌, ◌/◌, ◌%◌, ◌^◌, ◌≤◌, ◌<◌}
use mathlib.Core.Path.{◌≡◌, refl}
use mathlib.Core.Logic.{by_cases}
use mathlib.Core.List.{List, [], ◌∷◌, ◌++◌}
use native.Mathlib.Nat.{pow-suc}
use native.Mathlib.Decide.{dec_lt}
use native.Mathlib.Omega.{arith}
use lib.ListN.{length, get_or, length-append, get_or-append}
use Rattle.text.specs.Decimal.{decimal, read_on, read_back, Digits, Numeral}
use Rattle.text.proofs.Quotient.{decimal_small, decimal_more, by_quotient}

-- ---- its length

pub decimal_length_more : (n : ℕ) → 10 ≤ n → length (decimal n) ≡ length (decimal (n / 10)) + 1
decimal_length_more n h = rw (decimal_more n h, length-append (decimal (n / 10)) ((48 + n % 10) ∷ [])) refl

pub decimal_some : (n : ℕ) → 0 < length (decimal n)
decimal_some =
    by_quotient
    (λ n. 0 < length (decimal n))
    (λ n h. rw (decimal_small n h) (omega arith))
    (λ n h ih. rw (decimal_length_more n h) (omega arith))

pub decimal_fits : (k n : ℕ) → n < 10 ^ suc k → length (decimal n) ≤ suc k
decimal_fits zero n h = rw (decimal_small n h) (omega arith)
decimal_fits (suc k) n h =
    by_cases (dec_lt n 10)
    (λ small. rw (decimal_small n small) (omega arith))
    (λ large. omega (arith, decimal_length_more n (omega arith), decimal_fits k (n / 10) (omega (arith, rw (pow-suc 10 (suc k)) at h))))

pub decimal_twenty : (n : ℕ) → n < 2 ^ 64 → length (decimal n) ≤ 20
decimal_twenty n h = decimal_fits 19 n (omega arith)

-- ---- it is a numeral

pub read_on_last : (before : ℕ) (xs : List ℕ) (d : ℕ) → read_on before (xs ++ (d ∷ [])) ≡ read_on before xs * 10 + (d - 48)
read_on_last before [] d = refl
read_on_last before (x ∷ xs) d = read_on_last (before * 10 + (x - 48)) xs d

pub decimal_reads : (n : ℕ) → read_back (decimal n) ≡ n
decimal_reads =
    by_quotient
    (λ n. read_back (decimal n) ≡ n)
    (λ n h. rw (decimal_small n h) (omega arith))
    (λ n h ih. rw (decimal_more n h, read_on_last 0 (decimal (n / 10)) (48 + n % 10), ih) (omega arith))

digits_append : (xs ys : List ℕ) → Digits xs → Digits ys → Digits (xs ++ ys)
digits_append [] ys f g = g
digits_append (x ∷ xs) ys f g = (f.0, f.1, digits_append xs ys f.2 g)

pub decimal_digits : (n : ℕ) → Digits (decimal n)
decimal_digits =
    by_quotient
    (λ n. Digits (decimal n))
    (λ n h. rw (decimal_small n h) (omega arith, omega arith, tt))
    (λ n h ih. rw (decimal_more n h) (digits_append (decimal (n / 10)) ((48 + n % 10) ∷ []) ih (omega arith, omega arith, tt)))

-- no leading zero: the first digit is 0 of the number 0 alone
pub decimal_leads : (n : ℕ) → get_or (decimal n) 0 0 ≡ 48 → n ≡ 0
decimal_leads =
    by_quotient
    (λ n. get_or (decimal n) 0 0 ≡ 48 → n ≡ 0)
    (λ n h. rw (decimal_small n h) (λ e. omega arith))
    (λ n h ih. rw (decimal_more n h, get_or-append (decimal (n / 10)) ((48 + n % 10) ∷ []) 0 0 (decimal_some (n / 10))) (λ e. omega (arith, ih e)))

pub decimal_numeral : (n : ℕ) → Numeral n (decimal n)
decimal_numeral n =
    record {
      reads = decimal_reads n;
      digits = decimal_digits n;
      some = decimal_some n;
      leads = λ e. rw (decimal_small n (omega (arith, decimal_leads n e))) refl;
    }
