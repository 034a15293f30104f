use Rattle.std.proofs.Common.{◌-◌, refl}
use Rattle.bench_serial.proofs.Pieces.{listens_start, listens_on, listens_end}
use Rattle.bench_serial.proofs.bench_listen.Goals as goal

pub loop-at-init : goal.loop-at-init
loop-at-init c = listens_start _ _ _ _ c.piece_size-most.ensures c.fresh-state.ensures

pub loop-at-preserved : goal.loop-at-preserved
loop-at-preserved c = listens_on _ _ _ _ _ _ c.loop-at.invariant _ _ c.piece_size-most.ensures c.loop-at-test.true c.min.ensures
    c.hear-heard.ensures

pub returns : goal.returns
returns c = listens_end _ _ _ _ _ _ c.loop-at.invariant _ _ _ c.loop-at-test.false c.end-ending.ensures c.end_number.ensures
    refl
