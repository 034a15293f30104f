-- A record or a slip of another length leaves everything. Past that `copy_answered` joins what the record was read as, the copy, and what was kept of it.
use mathlib.Core.Path.{ap, ◌∙◌}
use Rattle.bench_calls.specs.Calls.{answer_number}
use Rattle.bench_slips.proofs.Slips.{copy_other, copy_slip_other, copy_answered}
use Rattle.bench_slips.proofs.bench_copy.Goals as goal

pub returns-then-record-ne32 : goal.returns-then-record-ne32
returns-then-record-ne32 c = let a = c.args in
    let left = copy_other a.ring.now a.«record».now a.slip.now a.out.now c.if-record-ne32.true in
    record { answer = c.answer_number.ensures ∙ left.0; kept = left.1.0; written = left.1.1.0; bytes = left.1.1.1 }

pub returns-then-slip-ne32 : goal.returns-then-slip-ne32
returns-then-slip-ne32 c = let a = c.args in
    let left = copy_slip_other a.ring.now a.«record».now a.slip.now a.out.now c.if-record-ne32.false c.if-slip-ne32.true in
    record { answer = c.answer_number-then-slip-ne32.ensures ∙ left.0; kept = left.1.0; written = left.1.1.0; bytes = left.1.1.1 }

pub returns : goal.returns
returns c = let a = c.args in
    let number = c.answer_number-2.ensures ∙ ap answer_number c.copy_answer.ensures in
    let h = copy_answered a.ring.now a.«record».now a.slip.now a.out.now c.if-record-ne32.false c.if-slip-ne32.false _ _ _ _ _ _
    c.reader_at-reader.ensures c.copy-copied.ensures.answer c.copy-copied.ensures.bytes c.keep_reader.ensures c.keep_copied.ensures number in
    record { answer = h.0; kept = h.1.0; written = h.1.1.0; bytes = h.1.1.1 }
