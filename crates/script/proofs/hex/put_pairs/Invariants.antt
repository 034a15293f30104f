-- Pair by pair: what was stored and what the pairs left spell is the whole (`unhex_turn`, `put_rest`).
-- Both digits of a pair are digits (`pair_digits`), so its byte fits.
use Prim.Native.Nat.{◌*◌}
use mathlib.Core.Path.{◌≡◌}
use mathlib.Core.Bool.{true}
use lib.ListN.{drop}
use Rattle.script.specs.Hex.{all_hex, unhex}
use Rattle.text.proofs.Remaining.{Left}
use Rattle.script.proofs.hex.put_pairs.Given as goal

abbrev pub invariant-loop-i : goal.invariant-loop-i
invariant-loop-i l = record {
  digits : all_hex (drop (2 * l.i) l.field) ≡ true;
  left : Left l.initial.out 0 (unhex l.field) l.out l.i (unhex (drop (2 * l.i) l.field));
}
