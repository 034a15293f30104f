-- Wrong reads by name that don't meet the third demand, and a wrong attaching.
use Rattle.std.specs.Prelude.{Ok}
use Rattle.table_rules.specs.{declared.Refusal.Refusal}
use Rattle.page_rules.specs.{Page.page_of}
use Rattle.reader_rules.specs.{Reader.reader_with, Read.untouched}
use Rattle.reader_rules.specs.declared.Reading.TheVariants as reading
use Rattle.comparison.specs.{Emptying.Read, Emptying.Attach, Emptying.NewlyAttachedBy, Comparison.Half, Comparison.Promise3, Comparison.DemandBy3}

-- always answers EMPTY
abbrev pub idle : Read
idle s reader out = record { answered = record { answer = Ok reading.Empty; reader = reader }; out = out }

-- refuses everything
abbrev pub refusing_read : Refusal → Read
refusing_read r s reader out = untouched reader out r

-- attaches at the write position
abbrev pub at_write : Attach
at_write s any = record { answer = Ok tt; reader = reader_with (page_of s).write_pos 0 0 (page_of s).generation }

pub record ShutOut3 : Type 0 where
  pub answers_empty : DemandBy3 idle Half Promise3 → ⊥
  pub refuses : (r : Refusal) → DemandBy3 (refusing_read r) Half Promise3 → ⊥
  pub attaches_at_the_end : NewlyAttachedBy at_write → ⊥
