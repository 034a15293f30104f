use native.Mathlib.Omega.{arith}
use Rattle.text.proofs.Quotient.{decimal_small, decimal_more}
use Rattle.text.proofs.Writing.{put_one, put_then}
use Rattle.text.proofs.decimal.+put_number.Goals as goal

pub returns-then-n-lt10 : goal.returns-then-n-lt10
returns-then-n-lt10 t c = rw (decimal_small c.args.n (omega arith)) (put_one _ _ _)

pub returns-else-n-lt10 : goal.returns-else-n-lt10
returns-else-n-lt10 t c = let n = c.args.n in
    rw (decimal_more n (omega arith)) (put_then c.put_number-last.ensures (put_one _ _ _))
