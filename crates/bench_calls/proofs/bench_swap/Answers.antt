-- A record of another length leaves everything (`swap_other`).
-- Past that `swap_answered` joins what the record was read as, the swap, and what was kept of it.
use Rattle.std.proofs.Common.{◌∙◌}
use Rattle.bench_calls.proofs.Calls.{swap_other, swap_answered}
use Rattle.bench_calls.proofs.bench_swap.Goals as goal

pub returns-then-record-ne24 : goal.returns-then-record-ne24
returns-then-record-ne24 c = let a = c.args in
    let left = swap_other a.old.now a.new.now a.«record».now c.if-record-ne24.true in
    record { answer = c.answer_number.ensures ∙ left.0; left = left.1.0; made = left.1.1.0; kept = left.1.1.1 }

pub returns : goal.returns
returns c = let a = c.args in
    let swapped = c.swap-swapped in
    let h = swap_answered a.old.now a.new.now a.«record».now c.if-record-ne24.false _ swapped.result _ _ _ _ _ c.read-writer.ensures
    swapped.ensures.answer swapped.ensures.left swapped.ensures.made
    (λ i. record { outcome = c.same_outcome-outcome.ensures i; writer = swapped.result.writer }) c.keep.ensures c.emitted_number.ensures in
    record { answer = h.0; left = h.1.0; made = h.1.1.0; kept = h.1.1.1 }
