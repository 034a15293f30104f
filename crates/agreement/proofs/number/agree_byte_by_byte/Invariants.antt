-- Byte by byte: what is left of the number has the next one lowest (`word_byte`, `one_byte_up`), up to one that differs or to the end (`agreeing_is`).
use Rattle.std.proofs.Common.{◌≡◌, ◌/◌, ◌^◌}
use Rattle.difference_rules.proofs.Facts.{Alike}
use Rattle.agreement.specs.Word.{word_of}
use Rattle.agreement.proofs.number.agree_byte_by_byte.Given as goal

abbrev pub invariant-loop-i : goal.invariant-loop-i
invariant-loop-i l = (l.rest ≡ l.value / 256 ^ l.i) × Alike (word_of l.value) l.bytes l.i
