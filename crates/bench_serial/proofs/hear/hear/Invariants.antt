-- At each turn the rest heard now gives the whole's result: strides lead on (`stride_on`), then a step (`hears_on`); a refused one changes nothing, and
-- where the piece's end is reached nothing is left.
use Rattle.std.proofs.Common.{◌-◌, length}
use Rattle.bench_serial.proofs.Heard.{Hears}
use Rattle.bench_serial.proofs.hear.hear.Given as goal

abbrev pub invariant-loop-at : goal.invariant-loop-at
invariant-loop-at l = Hears l.initial.state l.piece l.initial.total l.state l.at l.total

abbrev pub decreases-loop-at : goal.decreases-loop-at
decreases-loop-at l = length l.piece - l.at
