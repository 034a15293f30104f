-- Whatever meets the second demand is alike with the operation: the demand decides, and the operation meets it.
use mathlib.Core.Path.{◌≡◌, refl, sym, ap, ◌∙◌}
use mathlib.Core.List.{List, [], ◌∷◌, map}
use Rattle.history.specs.Ring.{fresh}
use Rattle.promise.specs.Bytes.{State, Turn, uncalled, Emission, called, left, Made, made_by, after_by, operation, made, after}
use Rattle.promise.specs.Demand2.{created_state}
use Rattle.promise.specs.Demand2.{Only2}
use Rattle.promise.proofs.Created.{fresh2}
use Rattle.promise.proofs.Decided.{decided2}

-- a history's calls are its turns
turns_of : (make : Emission) (turns : List Turn) (s : State) → map (λ (m : Made). m.turn) (made_by make s turns) ≡ turns
unfolding made_by
turns_of make [] s = refl
turns_of make (t ∷ ts) s = ap (λ (l : List Turn). t ∷ l) (turns_of make ts (left (called make s t)))

pub only2 : Only2
only2 make meets cpu capacity narrow fit buffer long turns =
    let s : State = created_state cpu buffer in
    decided2 cpu capacity fresh (uncalled s.ring turns) (made_by make s turns) (made s turns) (after_by make s turns) (after s turns)
    (turns_of make turns s ∙ sym (turns_of operation turns s))
    (meets cpu capacity narrow fit buffer long turns).1 (fresh2 cpu capacity narrow fit buffer long turns).1
