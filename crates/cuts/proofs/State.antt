-- States by the laws of a step: a good one leaves a possible state, a refused or an empty one leaves the state. A stride goes by its course's stage.
use Prim.Native.Nat.{ℕ, ◌+◌, ◌^◌, ◌≤◌, ◌<◌}
use native.Mathlib.Omega.{arith}
use mathlib.Core.Path.{◌≡◌, ap}
use mathlib.Core.Logic.{⊎_elim}
use mathlib.Core.Bool.{true}
use mathlib.Core.List.{List, [], ◌++◌}
use lib.ListN.{length}
use Rattle.table_rules.proofs.Tests.{le_or_lt}
use Rattle.serial_rules.specs.Step.{arrived, possible, refused_step, stepped, ended_listener}
use Rattle.serial_rules.specs.declared.Listener.{Listener}
use Rattle.serial_rules.specs.declared.Step.{Step}
use Rattle.serial_rules.proofs.Rest.{rest}
use Rattle.serial_rules.proofs.Steps.{Good}
use Rattle.serial_rules.proofs.Moves.{stepped_never, stepped_far, stepped_none, step_good, Moves, moves}
use Rattle.serial_rules.proofs.Strode.{stride_is_step as strode-is}
use Rattle.cuts.specs.State.{Keeps, StaysPossible, Impossible, StepsEnd, StrideIsStep}
use Rattle.cuts.proofs.Cut.{fresh_sound}

pub stays_possible : StaysPossible
stays_possible = (fresh_sound.possible_is, fresh_sound.kept_is, step)
  where
    step : (l : Listener) (piece : List ℕ) → Keeps l → possible l ≡ true → (possible (stepped l piece).listener ≡ true) × Keeps (stepped l piece).listener
    step l piece long can =
        ⊎_elim
        (λ (near : arrived l + length piece ≤ 2 ^ 62).
        ⊎_elim
        (λ (some : 1 ≤ length piece).
        let good : Good l piece [] (rest l (piece ++ [])) (stepped l piece) = step_good l piece [] (record { possible_is = can; kept_is = long }) some near in (
          good.possible_is,
          good.kept_is,
        ))
        (λ (none : length piece < 1). rw (stepped_none l piece can near (omega arith)) (can, long))
        (le_or_lt 1 (length piece)))
        (λ (far : 2 ^ 62 < arrived l + length piece). rw (stepped_far l piece can far) (can, long))
        (le_or_lt (arrived l + length piece) (2 ^ 62))

pub impossible : Impossible
unfolding ended_listener
impossible l e = (λ piece. stepped_never l piece e, rw e)

pub steps_end : StepsEnd
steps_end l piece long some near =
    ⊎_elim
    (λ (e : stepped l piece ≡ refused_step l). absurd (not_refused e))
    (λ (moved : Moves piece (stepped l piece)). (moved.uses, moved.within))
    (moves l piece long some)
  where
    not_refused : stepped l piece ≡ refused_step l → ⊥
    not_refused e = let far : 2 ^ 62 < arrived l + length piece = (Rattle.serial_rules.proofs.Moves.refused_only l piece (ap (λ (s : Step). s.report) e)).1 in omega arith

pub stride_is_step : StrideIsStep
stride_is_step l piece none can near some used = strode-is l piece none can near some used
