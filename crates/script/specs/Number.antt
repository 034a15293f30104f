-- tests/second/README.md, decision 5: numbers are digits alone, each in one spelling, up to 2^64 - 1. Definitions alone: nothing is assumed.
use Rattle.std.specs.Prelude.{ℕ, ◌+◌, ◌-◌, ◌*◌, Option, Some, None}
use mathlib.Core.{Bool.Bool, Bool.false, Bool.cond, List.List, List.[], List.◌∷◌}
use lib.{Dec.ltb, Dec.eqb, ListN.length, ListN.get_or}

abbrev pub fitting : ℕ → Option ℕ
fitting n = cond (ltb n 18446744073709551616) (Some n) None

-- n with one digit more behind it, 48 to 57 in ASCII
unfoldable pub digit_on : ℕ → ℕ → Option ℕ
digit_on n byte = cond (ltb byte 48) None (cond (ltb 57 byte) None (fitting (n * 10 + (byte - 48))))

-- the same where what was read in front may be no number
abbrev pub longer : Option ℕ → ℕ → Option ℕ
longer None byte = None
longer (Some n) byte = digit_on n byte

-- what is read of digits, where so much has been read in front of them
abbrev pub read_from : Option ℕ → List ℕ → Option ℕ
read_from before [] = before
read_from before (digit ∷ digits) = read_from (longer before digit) digits

-- more than one digit, the first of them 0
unfoldable pub leading_zero : List ℕ → Bool
leading_zero field = cond (ltb (length field) 2) false (eqb (get_or field 0 0) 48)

unfoldable pub read_number : List ℕ → Option ℕ
read_number [] = None
read_number (digit ∷ digits) = cond (leading_zero (digit ∷ digits)) None (read_from (Some 0) (digit ∷ digits))

-- a number of at most `most`
unfoldable pub within_most : ℕ → Option ℕ → Option ℕ
within_most most None = None
within_most most (Some n) = cond (ltb most n) None (Some n)
