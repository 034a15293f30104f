-- Byte by byte: the first i bytes are stored, and `sets_more` adds one; at the end they are all.
use Rattle.std.proofs.Common.{◌≡◌, take}
use Rattle.std.proofs.lemmas.List.Edits.{sets}
use Rattle.word.proofs.run.copy.Given as goal

abbrev pub invariant-loop-i : goal.invariant-loop-i
invariant-loop-i l = l.to ≡ sets l.initial.to l.at (take l.i l.from)
