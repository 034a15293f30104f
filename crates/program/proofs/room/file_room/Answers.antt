-- By the length that `room` states: from a wrong number the search alone comes to no verdict.
use native.Mathlib.Omega.{arith}
use Rattle.program.proofs.room.file_room.Goals as goal

pub returns : goal.returns
returns c = omega (arith, c.room.ensures)
