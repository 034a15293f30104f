-- The one refusal that bears values writes them, a place of at most twenty digits and a reason of three (`decimal_fits`). Any other bears none, and the check
-- sees that there is nothing to write.
use Prim.Native.Nat.{◌+◌, ◌≤◌}
use native.Mathlib.Omega.{arith}
use Rattle.text.proofs.Phrases.{worded_length}
use Rattle.text.proofs.Numerals.{decimal_fits, decimal_twenty}
use Rattle.text.proofs.Writing.{put_then}
use Rattle.refusal_text.proofs.put_values.Goals.{After-put_worded-end}
use Rattle.refusal_text.proofs.put_values.Goals as goal

-- where the place ends in the buffer
place_end : (c : After-put_worded-end) → c.put_worded-end.result ≤ c.args.at + 24
place_end c =
    omega (arith, simp worded_length at c.put_worded-end.ensures.place, decimal_twenty c.in-Damaged.damage.position (omega arith))

pub put_worded-end-requires : goal.put_worded-end-requires
put_worded-end-requires c = simp worded_length (omega (arith, decimal_twenty c.in-Damaged.damage.position (omega arith)))

pub put_worded-requires : goal.put_worded-requires
put_worded-requires c = simp worded_length (omega (arith, place_end (goal.at.put_worded-requires c).After-put_worded-end, decimal_fits 2 c.in-Damaged.damage.reason (omega arith)))

pub returns : goal.returns
returns c =
    let written = c.put_worded.ensures in
    record {
      put = rw c.in-Damaged.is (put_then c.put_worded-end.ensures written);
      upper_bound = omega (arith, place_end (goal.at.returns c).After-put_worded-end, simp worded_length at written.place, decimal_fits 2 c.in-Damaged.damage.reason (omega arith));
    }
