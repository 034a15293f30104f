-- RULES 8.10: the digit that says how a program has ended: `0` with the good answer, `1` with the other one or with none.
use Rattle.std.specs.Prelude.{ℕ}
use mathlib.Core.{List.List, List.[], List.◌∷◌}
use Rattle.status.specs.{declared.Ended.Ended}
use Rattle.status.specs.declared.Ended.TheVariants.{Good, Other}

abbrev pub digit_of : Ended → List ℕ
digit_of Good = 48 ∷ []
digit_of Other = 49 ∷ []
