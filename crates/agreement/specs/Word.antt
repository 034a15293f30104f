-- RULES 1.3: the eight bytes of a number, the lowest first.
use Rattle.std.specs.Prelude.{ℕ}
use mathlib.Core.{List.List}
use lib.{ListN.replicate}
use Rattle.word_rules.specs.{Number.put}

unfoldable pub word_of : ℕ → List ℕ
word_of value = put (replicate 8 0) 0 8 value
