-- At each turn the rest listened to now gives the whole's result: a piece leads on (`listens_on`), and the end adds its number to the sum (`listens_end`).
use Rattle.std.proofs.Common.{◌-◌, length}
use Rattle.bench_serial.proofs.Pieces.{Listens}
use Rattle.bench_serial.proofs.bench_listen.Given as goal

abbrev pub invariant-loop-at : goal.invariant-loop-at
invariant-loop-at l = Listens l.size l.file l.most l.state l.sum l.at

abbrev pub decreases-loop-at : goal.decreases-loop-at
decreases-loop-at l = length l.file - l.at
