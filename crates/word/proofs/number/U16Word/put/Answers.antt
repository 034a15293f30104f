-- Two bytes stored, the lower first: `put` unfolds to these, once value / 256 is known to be a byte already.
use native.Mathlib.Omega.{arith}
use native.Mathlib.Nat.{add-zero, div-one, mod-eq_of_lt}
use Prim.Native.Nat.{◌/◌}
use Rattle.word_rules.specs.Number.{byte_of, put}
use Rattle.word.proofs.number.U16Word.put.Goals as goal

pub returns : goal.returns
unfolding put byte_of
returns c = simp (add-zero, div-one, mod-eq_of_lt {n = c.args.value / 256} {m = 256} (omega arith))
