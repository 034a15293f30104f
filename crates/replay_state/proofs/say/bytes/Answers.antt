-- The buffer on the stack has room for every field (`field_fits`), so the part of it that is written out lies within it.
use native.Mathlib.Omega.{arith}
use Rattle.text.proofs.Writing.{put_length}
use Rattle.script.proofs.Pairs.{field_fits}
use Rattle.replay_state.proofs.say.bytes.Goals as goal

pub put_hex-end-requires : goal.put_hex-end-requires
put_hex-end-requires c = omega (arith, field_fits 40960 c.args.buffer.now (omega arith) (omega arith))

pub slice_bounds-words-end : goal.slice_bounds-words-end
slice_bounds-words-end c = omega (arith, c.put_hex-end.ensures.place, put_length c.put_hex-end.ensures, field_fits 40960 c.args.buffer.now (omega arith) (omega arith))
