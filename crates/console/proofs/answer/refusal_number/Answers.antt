-- Refusal 10 by its variant; of any other `not_ten` says that it isn't 10.
use Prim.Native.Nat.{ℕ}
use native.Mathlib.Omega.{arith}
use mathlib.Core.Path.{◌≡◌, refl, sym, ap, ◌∙◌}
use Rattle.table_rules.specs.Refusals.{paper_number}
use Rattle.table_rules.specs.declared.Damage.{Damage}
use Rattle.table_rules.specs.declared.Refusal.{Refusal}
use Rattle.table_rules.specs.declared.Refusal.TheVariants.{Short, Magic, Version, Layout, Length, Position, Writer, Spent, Far, Damaged}
use Rattle.table_rules.specs.declared.Refusal.TheVariants.{Disagree, Reader, Out, Generation, Size, Record}
use Rattle.console_rules.specs.Console.{call_number}
use Rattle.console_rules.proofs.Header.{told_by_number}
use Rattle.console.proofs.answer.refusal_number.Goals as goal

not_ten : (r : Refusal) → ((damage : Damage) → r ≡ Damaged damage → ⊥) → paper_number r ≡ 10 → ⊥
not_ten (Damaged damage) other e = other damage refl
not_ten Short other e = omega arith
not_ten Magic other e = omega arith
not_ten Version other e = omega arith
not_ten Layout other e = omega arith
not_ten Length other e = omega arith
not_ten Position other e = omega arith
not_ten Writer other e = omega arith
not_ten Spent other e = omega arith
not_ten Far other e = omega arith
not_ten Disagree other e = omega arith
not_ten Reader other e = omega arith
not_ten Out other e = omega arith
not_ten Generation other e = omega arith
not_ten Size other e = omega arith
not_ten Record other e = omega arith

pub returns-in-Damaged : goal.returns-in-Damaged
unfolding call_number
returns-in-Damaged c = sym (ap call_number c.in-Damaged.is)

pub returns : goal.returns
returns c = c.paper_number.ensures ∙ sym (told_by_number c.args.refusal (not_ten c.args.refusal c.in_default.not-Damaged))
