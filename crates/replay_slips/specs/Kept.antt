-- What a line that copies leaves of the slips (tests/second/README.md, "A script"): slip s is written with an event alone.
use Rattle.std.specs.Prelude.{ℕ, Result, Ok, Err}
use Rattle.table_rules.specs.declared.Refusal.{Refusal}
use mathlib.Core.{List.List}
use lib.{ListN.set}
use Rattle.slip_rules.specs.{declared.Slip.Slip, declared.Copying.Copying}
use Rattle.slip_rules.specs.declared.Copying.TheVariants.{Event, Empty, Moved}

abbrev pub slips_after : Result Copying Refusal → ℕ → List Slip → List Slip
slips_after (Ok (Event slip)) s slips = set slips s slip
slips_after (Ok Empty) s slips = slips
slips_after (Ok Moved) s slips = slips
slips_after (Err r) s slips = slips
