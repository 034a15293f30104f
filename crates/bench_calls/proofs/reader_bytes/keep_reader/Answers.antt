-- The four numbers, put one after the other: `put_all` is no more than that.
use Rattle.std.proofs.Common.{ℕ, List, ap, ◌∙◌}
use Rattle.word_rules.specs.Number.{put}
use Rattle.word_rules.specs.Fields.{put_all}
use Rattle.bench_calls.proofs.reader_bytes.keep_reader.Goals as goal

pub returns : goal.returns
unfolding put_all
returns c = let reader = c.args.reader in
    let two = c.put-2.ensures ∙ ap (λ (b : List ℕ). put b 8 8 reader.last) c.put.ensures in
    let three = c.put-3.ensures ∙ ap (λ (b : List ℕ). put b 16 8 reader.handed) two in
    c.put-4.ensures ∙ ap (λ (b : List ℕ). put b 24 8 reader.generation) three
