-- RULES 8.9: a number's one text in decimal digits. Definitions alone: nothing is assumed.
use Rattle.std.specs.Prelude.{ℕ, zero, suc, ◌+◌, ◌-◌, ◌*◌, ◌/◌, ◌%◌, ◌≤◌, ◌<◌}
use mathlib.Core.{Path.◌≡◌, Bool.Bool, Bool.true, Bool.false, List.List, List.[], List.◌∷◌, List.◌++◌}
use lib.{Dec.ltb, ListN.length, ListN.get_or}

-- A number below ten is one digit; any other is the digits of its quotient by ten and then its last digit. The rule for the quotient comes unapplied,
-- so that computing an example goes only as deep as there are digits.
abbrev pub digits_of : Bool → (ℕ → List ℕ) → ℕ → List ℕ
digits_of true rule n = (48 + n) ∷ []
digits_of false rule n = rule (n / 10) ++ ((48 + n % 10) ∷ [])

-- the same with at most so many digits before the last
abbrev pub decimal_within : ℕ → ℕ → List ℕ
decimal_within zero n = (48 + n) ∷ []
decimal_within (suc steps) n = digits_of (ltb n 10) (decimal_within steps) n

-- n in ASCII digits. n steps are enough, since no number has more digits before its last than it counts.
unfoldable pub decimal : ℕ → List ℕ
decimal n = decimal_within n n

-- the number that digits say, where `before` has been read in front of them
abbrev pub read_on : ℕ → List ℕ → ℕ
read_on before [] = before
read_on before (digit ∷ digits) = read_on (before * 10 + (digit - 48)) digits

abbrev pub read_back : List ℕ → ℕ
read_back digits = read_on 0 digits

-- every byte is an ASCII digit
abbrev pub Digits : List ℕ → Type 0
Digits [] = Unit {0}
Digits (digit ∷ digits) = (48 ≤ digit) × (digit ≤ 57) × Digits digits

-- 8.9: what is asked of the text of n, with no word on how it is made. `decimal n` is such a text, and there is no other.
pub record Numeral (n : ℕ) (text : List ℕ) : Type 0 where
  pub reads : read_back text ≡ n
  pub digits : Digits text
  pub some : 0 < length text
  pub leads : get_or text 0 0 ≡ 48 → length text ≡ 1
