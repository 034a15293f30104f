-- Each turn is so many bytes more that are alike (`alike_more`).
use Rattle.std.proofs.Common.{◌-◌, ◌≤◌}
use Rattle.difference_rules.proofs.Facts.{Alike}
use Rattle.agreement.proofs.past_words.Given as goal

abbrev pub invariant-loop-i : goal.invariant-loop-i
invariant-loop-i g l = (l.i ≤ l.common) × Alike l.a l.b l.i

abbrev pub decreases-loop-i : goal.decreases-loop-i
decreases-loop-i g l = l.common - l.i
