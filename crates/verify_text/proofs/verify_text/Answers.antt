-- By what the check answered: a refusal gives its line, and how the two compare is told by `tell`.
use native.Mathlib.Omega.{arith}
use mathlib.Core.Path.{refl, sym, ◌∙◌}
use Rattle.text.proofs.Writing.{put_front}
use Rattle.verify_text.specs.Verdict.{verdict}
use Rattle.verify_text.proofs.verify_text.Goals as goal

pub returns-in-Err : goal.returns-in-Err
unfolding verdict
returns-in-Err c = let line = c.put_refusal_line.ensures in
    rw (sym c.verify.ensures ∙ c.in-Err.is)
    (record { kind = refl; front = put_front line.put (omega (arith, line.put.place, line.upper_bound)) })

pub returns-in-Ok : goal.returns-in-Ok
unfolding verdict
returns-in-Ok c = rw (sym c.verify.ensures ∙ c.in-Ok.is) c.tell.ensures
