-- Two halves put one behind the other are the whole number put (`put_split`).
use Rattle.word_rules.proofs.Writing.{put_split}
use Rattle.word.proofs.number.U32Word.put.Goals as goal

pub returns : goal.returns
returns c = let a = c.args in
    cc (put_split a.bytes.now a.at 2 2 a.value)
