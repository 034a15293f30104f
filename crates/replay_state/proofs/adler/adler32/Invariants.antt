-- Both sums stay below 65,521 from turn to turn, so nothing overflows; what the sum is, no contract says.
use Prim.Native.Nat.{◌<◌}
use Rattle.replay_state.proofs.adler.adler32.Given as goal

abbrev pub invariant-loop-byte : goal.invariant-loop-byte
invariant-loop-byte l = (l.low < 65521) × (l.high < 65521)
