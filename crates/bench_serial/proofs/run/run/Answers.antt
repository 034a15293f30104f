use Rattle.std.proofs.Common.{◌+◌, ◌-◌, ◌≤◌, length, arith, refl}
use Rattle.bench_serial.proofs.Heard.{runs_within, runs_whole, runs_on}
use Rattle.bench_serial.proofs.run.run.Goals.{After-stride-s}
use Rattle.bench_serial.proofs.run.run.Goals as goal

within : (c : After-stride-s)
    → c.loop-at.at + c.stride-s.result.used ≤ length c.args.piece.now
within c = runs_within _ _ _ _ _ _ _ c.loop-at.invariant _ c.stride-s.ensures

pub stride_number-total-requires : goal.stride_number-total-requires
stride_number-total-requires c = runs_whole _ _ _ _ _ _ _ c.loop-at.invariant _ c.stride-s.ensures

pub overflow_add-at : goal.overflow_add-at
overflow_add-at c = omega (arith, within (goal.at.overflow_add-at c).After-stride-s)

pub loop-at-preserved : goal.loop-at-preserved
loop-at-preserved c = runs_on _ _ _ _ _ _ _ c.loop-at.invariant _ c.stride-s.ensures _ _ c.loop-at-test.true
    c.if-used-eq0.false c.stride_number-total.ensures refl
