-- No buffer changes its length.
use Rattle.std.proofs.Common.{◌≡◌, length}
use Rattle.replay.proofs.play.play.Given as goal

abbrev pub invariant-loop-whole : goal.invariant-loop-whole
invariant-loop-whole l = (length l.first ≡ length l.initial.first)
    × (length l.second ≡ length l.initial.second)
    × (length l.third ≡ length l.initial.third)
    × (length l.fourth ≡ length l.initial.fourth)
    × (length l.out ≡ length l.initial.out)
