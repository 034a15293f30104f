-- Digit by digit: the number so far and the digits left read as the whole field does; the first byte that is no digit spoils it (`read_bad`).
use mathlib.Core.Path.{◌≡◌}
use lib.ListN.{drop}
use Rattle.std.specs.Prelude.{Some}
use Rattle.script.specs.Number.{read_from, read_number}
use Rattle.script.proofs.number.number.Given as goal

abbrev pub invariant-loop-byte : goal.invariant-loop-byte
invariant-loop-byte l = read_from (Some l.n) (drop l.byte-index l.field) ≡ read_number l.field
