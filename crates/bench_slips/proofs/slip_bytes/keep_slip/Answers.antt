-- The four numbers, put one after the other: `put_all` is no more than that.
use Prim.Native.Nat.{ℕ}
use mathlib.Core.Path.{ap, ◌∙◌}
use mathlib.Core.List.{List}
use Rattle.word_rules.specs.Number.{put}
use Rattle.word_rules.specs.Fields.{put_all}
use Rattle.bench_slips.proofs.slip_bytes.keep_slip.Goals as goal

pub returns : goal.returns
unfolding put_all
returns c = let slip = c.args.slip in
    let two = c.put-2.ensures ∙ ap (λ (b : List ℕ). put b 8 8 slip.size) c.put.ensures in
    let three = c.put-3.ensures ∙ ap (λ (b : List ℕ). put b 16 8 slip.sequence) two in
    c.put-4.ensures ∙ ap (λ (b : List ℕ). put b 24 8 slip.tail_seen) three
