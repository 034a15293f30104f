-- Turn by turn: what is left of the piece, fed to the listener that has come out so far, leaves what the whole piece does (`feed_step`); a step that uses
-- nothing was refused (`feed_idle`), and with nothing left the listener stays (`feed_empty`).
use Prim.Native.Nat.{◌-◌, ◌≤◌}
use mathlib.Core.Path.{◌≡◌}
use lib.ListN.{length, drop}
use Rattle.serial_rules.specs.Feed.{feed}
use Rattle.replay_serial.proofs.take.Given as goal

abbrev pub invariant-loop-at : goal.invariant-loop-at
invariant-loop-at l =
    (l.at ≤ length l.piece) × (length l.listener.kept ≡ 32) × ((feed l.initial.listener l.piece).listener ≡ (feed l.listener (drop l.at l.piece)).listener)

abbrev pub decreases-loop-at : goal.decreases-loop-at
decreases-loop-at l = length l.piece - l.at
