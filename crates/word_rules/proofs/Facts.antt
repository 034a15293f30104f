-- Places that fields leave alone, as a test that computes.
use Prim.Native.Nat.{ℕ, ◌+◌}
use mathlib.Core.{Bool.Bool, Bool.true, Bool.◌&&◌, Bool.◌||◌, List.List, List.[], List.◌∷◌}
use lib.{Dec.leb}
use Rattle.word_rules.specs.{Fields.Field}

-- no field shares a byte with the `width` bytes from `at`
abbrev pub clear_of : List Field → ℕ → ℕ → Bool
clear_of [] at width = true
clear_of (f ∷ fs) at width = (leb (f.offset + f.size) at || leb (at + width) f.offset) && clear_of fs at width
