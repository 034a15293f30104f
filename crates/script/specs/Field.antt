-- tests/second/README.md, decision 4: fields are what stands between single spaces. Definitions alone: nothing is assumed.
use Rattle.std.specs.Prelude.{ℕ, zero, suc, ◌+◌, ◌==◌, count_by, nat_eq}
use mathlib.Core.{Bool.Bool, Bool.cond, List.List, List.[], List.◌∷◌}
use lib.{Dec.eqb, ListN.length, ListN.drop, Pointwise.pointwise}

-- what stands before the first `byte`; all, where there is none
abbrev pub up_to : ℕ → List ℕ → List ℕ
up_to byte [] = []
up_to byte (x ∷ xs) = cond (eqb x byte) [] (x ∷ up_to byte xs)

-- what stands behind it; nothing, where there is none
unfoldable pub behind : ℕ → List ℕ → List ℕ
behind byte text = drop (length (up_to byte text) + 1) text

-- field k of a line, counted from 0, with 32 the space; one that isn't there is empty
abbrev pub field_of : ℕ → List ℕ → List ℕ
field_of zero line = up_to 32 line
field_of (suc k) line = field_of k (behind 32 line)

-- how many fields a line has: one more than spaces
abbrev pub parts : List ℕ → ℕ
parts line = count_by (λ byte. byte == 32) line + 1

-- the same bytes
abbrev pub alike : List ℕ → List ℕ → Bool
alike a b = pointwise nat_eq a b
