-- RULES 8.10: what becomes of a reply by its kind: whether it goes to standard output, among the answers, and how the program has ended with it.
use mathlib.Core.{Bool.Bool, Bool.true, Bool.false}
use Rattle.status.specs.{declared.Ended.Ended}
use Rattle.status.specs.declared.Ended.TheVariants as ended
use Rattle.refusal_text.specs.{declared.Kind.Kind}
use Rattle.refusal_text.specs.declared.Kind.TheVariants as kind

abbrev pub is_answer : Kind → Bool
is_answer kind.Wanted = true
is_answer kind.Other = true
is_answer kind.Hindrance = false

abbrev pub ended_with : Kind → Ended
ended_with kind.Wanted = ended.Good
ended_with kind.Other = ended.Other
ended_with kind.Hindrance = ended.Other
