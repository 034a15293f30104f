-- Two bytes, the lower first: `number` unfolds to just this sum.
use Rattle.std.proofs.Common.{arith, add-zero}
use Rattle.word_rules.specs.Number.{number}
use Rattle.word.proofs.number.U16Word.get.Goals as goal

pub returns : goal.returns
unfolding number
returns c = simp add-zero (omega arith)
