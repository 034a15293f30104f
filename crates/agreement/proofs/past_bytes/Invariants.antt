-- Byte by byte, each alike, up to one that isn't or to the shorter one's end (`agreeing_is`).
use Rattle.difference_rules.proofs.Facts.{Alike}
use Rattle.agreement.proofs.past_bytes.Given as goal

abbrev pub invariant-loop-i : goal.invariant-loop-i
invariant-loop-i l = Alike l.a l.b l.i
