use Rattle.std.proofs.Common.{◌≡◌, ◌∙◌, sym, inl, inr, arith}
use Rattle.difference_rules.proofs.Agreeing.{agreeing_is}
use Rattle.agreement.proofs.past_bytes.Goals as goal

pub returns-then-a-i : goal.returns-then-a-i
returns-then-a-i c = sym (agreeing_is _ _ c.loop-i.i c.loop-i.invariant (inr c.if-a-i.true))

pub returns : goal.returns
returns c = let done : c.loop-i.i ≡ c.args.common = omega arith in
    sym (agreeing_is _ _ c.loop-i.i c.loop-i.invariant (inl (omega arith)) ∙ done)
