-- At each turn the rest heard now gives the whole's result, whatever bytes are kept: a stride leads on (`runs_on`), and where none can be made that is all.
use Rattle.std.proofs.Common.{◌-◌, length}
use Rattle.bench_serial.proofs.Heard.{Runs}
use Rattle.bench_serial.proofs.run.run.Given as goal

abbrev pub invariant-loop-at : goal.invariant-loop-at
invariant-loop-at l = Runs l.initial.c l.piece l.from l.initial.total l.c l.at l.total

abbrev pub decreases-loop-at : goal.decreases-loop-at
decreases-loop-at l = length l.piece - l.at
