-- The word and then the number, joined by `put_then`.
use Rattle.text.specs.Phrase.{worded}
use Rattle.text.proofs.Writing.{put_then}
use Rattle.text.proofs.phrase.put_worded.Goals as goal

pub returns : goal.returns
unfolding worded
returns c = put_then c.put_bytes-end.ensures c.put_number.ensures
