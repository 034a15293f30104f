-- The record of the four numbers read, each where `reader_of` has it.
use Rattle.std.proofs.Common.{◌∙◌}
use Rattle.reader_rules.specs.Reader.{reader_with}
use Rattle.bench_calls.specs.Calls.{reader_of}
use Rattle.bench_calls.proofs.reader_bytes.reader_at.Goals as goal

pub returns : goal.returns
unfolding reader_of
returns c = c.reader_with.ensures
    ∙ (λ i. reader_with (c.get.ensures i) (c.get-2.ensures i) (c.get-3.ensures i) (c.get-4.ensures i))
