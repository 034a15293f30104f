-- A record or a slip of another length leaves everything. Past that `confirm_answered` joins what the two were read as, the confirmation, and what was kept.
use mathlib.Core.Path.{ap, ◌∙◌}
use Rattle.bench_calls.specs.Calls.{answer_number}
use Rattle.bench_slips.proofs.Slips.{confirm_other, confirm_slip_other, confirm_answered}
use Rattle.bench_slips.proofs.bench_confirm.Goals as goal

pub returns-then-record-ne32 : goal.returns-then-record-ne32
returns-then-record-ne32 c = let a = c.args in
    let left = confirm_other a.ring.now a.«record».now a.slip.now c.if-record-ne32.true in
    record { answer = c.answer_number.ensures ∙ left.0; kept = left.1 }

pub returns-then-slip-ne32 : goal.returns-then-slip-ne32
returns-then-slip-ne32 c = let a = c.args in
    let left = confirm_slip_other a.ring.now a.«record».now a.slip.now c.if-record-ne32.false c.if-slip-ne32.true in
    record { answer = c.answer_number-then-slip-ne32.ensures ∙ left.0; kept = left.1 }

pub returns : goal.returns
returns c = let a = c.args in
    let number = c.answer_number-2.ensures ∙ ap answer_number c.confirm_answer.ensures in
    let h = confirm_answered a.ring.now a.«record».now a.slip.now c.if-record-ne32.false c.if-slip-ne32.false _ _ _ _ _
    c.reader_at-reader.ensures c.slip_at.ensures c.confirm-confirmed.ensures c.keep_reader.ensures number in
    record { answer = h.0; kept = h.1 }
