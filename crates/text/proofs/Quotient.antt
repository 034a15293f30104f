-- `decimal` below ten and above, whatever the steps that it counts (`within_enough`), and the rule by which what holds of it is proved (`by_quotient`).
use Prim.Native.Nat.{ℕ, zero, suc, ◌+◌, ◌/◌, ◌%◌, ◌≤◌, ◌<◌}
use mathlib.Core.Path.{◌≡◌, refl}
use mathlib.Core.Logic.{by_cases}
use mathlib.Core.List.{[], ◌∷◌, ◌++◌}
use native.Mathlib.Decide.{dec_lt}
use native.Mathlib.Omega.{arith}
use borrow.Author.Tests.{lt-ltb, le-ltb}
use Rattle.text.specs.Decimal.{decimal_within, decimal}

-- any two numbers of steps that are enough agree
within_enough : (j k n : ℕ) → n ≤ j → n ≤ k → decimal_within j n ≡ decimal_within k n
within_enough zero zero n h g = refl
within_enough zero (suc k) n h g = rw (lt-ltb n 10 (omega arith))
within_enough (suc j) zero n h g = rw (lt-ltb n 10 (omega arith))
within_enough (suc j) (suc k) n h g =
    by_cases (dec_lt n 10)
    (λ small. rw (lt-ltb n 10 small))
    (λ large. rw (le-ltb n 10 (omega arith), within_enough j k (n / 10) (omega arith) (omega arith)))

pub decimal_small : (n : ℕ) → n < 10 → decimal n ≡ (48 + n) ∷ []
unfolding decimal
decimal_small zero h = refl
decimal_small (suc k) h = rw (lt-ltb (suc k) 10 h)

pub decimal_more : (n : ℕ) → 10 ≤ n → decimal n ≡ decimal (n / 10) ++ ((48 + n % 10) ∷ [])
unfolding decimal
decimal_more zero h = absurd (omega arith)
decimal_more (suc k) h = rw (le-ltb (suc k) 10 h, within_enough k (suc k / 10) (suc k / 10) (omega arith) (omega arith))

module _ (P : ℕ → Type 0) (small : (n : ℕ) → n < 10 → P n) (more : (n : ℕ) → 10 ≤ n → P (n / 10) → P n) where
  below : (bound n : ℕ) → n ≤ bound → P n
  below zero n h = small n (omega arith)
  below (suc bound) n h = by_cases (dec_lt n 10) (small n) (λ large. more n (omega arith) (below bound (n / 10) (omega arith)))

  -- what holds below ten, and of a number where it holds of its quotient by ten, holds of every number
  pub by_quotient : (n : ℕ) → P n
  by_quotient n = below n n (omega arith)
