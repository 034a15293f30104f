-- Word by word: equal so far, and equal in the next one (`halves`).
use Rattle.std.proofs.Common.{◌≡◌, ◌*◌}
use Rattle.word_rules.specs.Number.{number}
use Rattle.agreement.proofs.wide.are_same.Given as goal

abbrev pub invariant-loop-word : goal.invariant-loop-word
invariant-loop-word g l = number l.a l.at (l.word * 8) ≡ number l.b l.at (l.word * 8)
