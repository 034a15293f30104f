-- RULES 8.9: what lines are made of. Definitions alone: nothing is assumed.
use Rattle.std.specs.Prelude.{ℕ}
use mathlib.Core.{List.List, List.[], List.◌∷◌, List.◌++◌}
use Rattle.text.specs.{Decimal.decimal}

-- a number and the byte that ends it: a space or a newline
unfoldable pub numbered : ℕ → ℕ → List ℕ
numbered n byte = decimal n ++ (byte ∷ [])

-- a word and the number behind it
unfoldable pub worded : List ℕ → ℕ → List ℕ
worded word n = word ++ decimal n
