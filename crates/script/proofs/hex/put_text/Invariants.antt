-- Byte by byte: what was written and the text of the bytes left is the whole text, until none is left.
use lib.ListN.{drop}
use Rattle.script.specs.Hex.{hex_text}
use Rattle.text.proofs.Remaining.{Left}
use Rattle.script.proofs.hex.put_text.Given as goal

abbrev pub invariant-loop-byte : goal.invariant-loop-byte
invariant-loop-byte l = Left l.initial.out l.at (hex_text l.bytes) l.out l.next (hex_text (drop l.byte-index l.bytes))
