-- In either arm the line that was put stands at the front.
use native.Mathlib.Omega.{arith}
use mathlib.Core.Path.{refl}
use Rattle.text.proofs.Writing.{put_front}
use Rattle.verify_text.proofs.tell.Goals as goal

pub returns-in-None : goal.returns-in-None
returns-in-None c = let line = c.put_same_line.ensures in
    rw c.in-None.is (record { kind = refl; front = put_front line.put (omega (arith, line.put.place, line.upper_bound)) })

pub returns-in-Some : goal.returns-in-Some
returns-in-Some c = let line = c.put_differs_line.ensures in
    rw c.in-Some.is (record { kind = refl; front = put_front line.put (omega (arith, line.put.place, line.upper_bound)) })
