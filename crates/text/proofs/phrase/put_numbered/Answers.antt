-- The number and then the byte, joined by `put_then`.
use Rattle.text.specs.Phrase.{numbered}
use Rattle.text.proofs.Writing.{put_then}
use Rattle.text.proofs.phrase.put_numbered.Goals as goal

pub returns : goal.returns
unfolding numbered
returns c = put_then c.put_number-end.ensures c.put_byte.ensures
