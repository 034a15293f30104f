-- A refusal that isn't the tenth bears no values, so that the code's `else` has nothing to write.
use mathlib.Core.Path.{◌≡◌, ap}
use mathlib.Core.List.{[]}
use denote.Enum.Declared.{tag_of}
use types.Run.{OneOf}
use Rattle.table_rules.specs.Refusals.{paper_values}
use Rattle.table_rules.specs.declared.Refusal.{Refusal}
use Rattle.table_rules.specs.contracts.Refusal as refusal
use Rattle.table_rules.proofs.Bearing.{others, other_alone}
use Rattle.refusal_text.specs.Lines.{values_text}

pub no_values : (r : Refusal) → OneOf others (tag_of refusal.the_type r) → values_text (paper_values r) ≡ []
no_values r other = ap values_text (other_alone r other).bears
