-- Two halves: `number_split` says that a number of eight bytes is its lower four and 2^32 times its upper four.
use Rattle.std.proofs.Common.{arith}
use Rattle.word_rules.proofs.Reading.{number_split}
use Rattle.word.proofs.number.U64Word.get.Goals as goal

pub returns : goal.returns
returns c = let a = c.args in omega (arith, number_split a.bytes.now a.at 4 4)
