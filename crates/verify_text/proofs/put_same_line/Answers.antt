-- Word, number and words, joined by `put_then`; a number takes at most twenty digits (`worded_end`), so there is room.
use native.Mathlib.Omega.{arith}
use Rattle.text.proofs.Phrases.{worded_fits, worded_end}
use Rattle.text.proofs.Writing.{put_then}
use Rattle.verify_text.specs.Verdict.{same, same_line}
use Rattle.verify_text.proofs.put_same_line.Goals as goal

pub put_worded-end-requires : goal.put_worded-end-requires
put_worded-end-requires c = omega (arith, worded_fits same c.args.size (omega arith))

pub put_bytes-requires : goal.put_bytes-requires
put_bytes-requires c = omega (arith, worded_end same _ c.put_worded-end.ensures (omega arith))

pub returns : goal.returns
unfolding same_line
returns c = let word = c.put_worded-end.ensures in
    let end = c.put_bytes.ensures in
    record { put = put_then word end; upper_bound = omega (arith, worded_end same _ word (omega arith), end.place) }
