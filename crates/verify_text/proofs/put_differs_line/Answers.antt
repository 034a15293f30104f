-- Word, number and newline, joined by `put_then`; a number takes at most twenty digits (`worded_end`), so there is room.
use native.Mathlib.Omega.{arith}
use Rattle.text.proofs.Phrases.{worded_fits, worded_end}
use Rattle.text.proofs.Writing.{put_then}
use Rattle.verify_text.specs.Verdict.{differs_at, differs_line}
use Rattle.verify_text.proofs.put_differs_line.Goals as goal

pub put_worded-end-requires : goal.put_worded-end-requires
put_worded-end-requires c = omega (arith, worded_fits differs_at c.args.place (omega arith))

pub put_byte-requires : goal.put_byte-requires
put_byte-requires c = omega (arith, worded_end differs_at _ c.put_worded-end.ensures (omega arith))

pub returns : goal.returns
unfolding differs_line
returns c = let word = c.put_worded-end.ensures in
    let end = c.put_byte.ensures in
    record { put = put_then word end; upper_bound = omega (arith, worded_end differs_at _ word (omega arith), end.place) }
