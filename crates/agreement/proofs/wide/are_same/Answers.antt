use Rattle.std.proofs.Common.{◌≡◌, ◌+◌, ◌*◌, refl, sym, arith, ◌∙◌}
use Rattle.word_rules.specs.Number.{number}
use Rattle.agreement.proofs.Steps.{halves}
use Rattle.agreement.proofs.wide.are_same.Goals as goal

pub loop-word-init : goal.loop-word-init
unfolding number
loop-word-init g c = refl

pub loop-word-preserved : goal.loop-word-preserved
loop-word-preserved g c = let a = c.args in
    let word = c.loop-word.word in
    let one_more : (word + 1) * 8 ≡ word * 8 + 8 = omega arith in
    rw one_more (halves a.a.now a.b.now a.at (word * 8) 8 c.loop-word.invariant (sym c.get.ensures ∙ c.if-get.false ∙ c.get-in-loop-word.ensures))
