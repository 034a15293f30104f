use Rattle.std.proofs.Common.{◌*◌, arith}
use Rattle.agreement.proofs.Steps.{alike_more}
use Rattle.agreement.proofs.past_words.Goals as goal

pub loop-i-preserved : goal.loop-i-preserved
loop-i-preserved g c = let a = c.args in (
  omega arith,
  alike_more a.a.now a.b.now c.loop-i.i (g.row.WORDS * 8) (λ k. (c.type_inv.a k).fits) (λ k. (c.type_inv.b k).fits) c.loop-i.invariant.1
      (omega arith) (omega arith) (c.are_same.ensures c.if-are_same.true),
)
