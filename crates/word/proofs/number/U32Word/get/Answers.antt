-- Two halves: `number_split` says that a number of four bytes is its lower two and 65,536 times its upper two.
use Rattle.std.proofs.Common.{arith}
use Rattle.word_rules.proofs.Reading.{number_split}
use Rattle.word.proofs.number.U32Word.get.Goals as goal

pub returns : goal.returns
returns c = let a = c.args in omega (arith, number_split a.bytes.now a.at 2 2)
