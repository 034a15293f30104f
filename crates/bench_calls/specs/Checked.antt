-- The check of a recording by number: a place from 2,000 on, clear of every other answer.
use Rattle.std.specs.Prelude.{ℕ, ◌+◌, Option, Some, None, Result, Ok, Err}
use Rattle.table_rules.specs.declared.Refusal.{Refusal}
use Rattle.console_rules.specs.{Console.call_number}

abbrev pub compared_number : Option ℕ → ℕ
compared_number None = 0
compared_number (Some place) = 2000 + place

abbrev pub verified_number : Result (Option ℕ) Refusal → ℕ
verified_number (Ok difference) = compared_number difference
verified_number (Err refusal) = call_number refusal
