-- A record of another length leaves everything (`read_other`).
-- Past that `read_answered` joins what the record was read as, the reading, and what was kept of it.
use Rattle.std.proofs.Common.{ap, ◌∙◌}
use Rattle.bench_calls.specs.Calls.{answer_number}
use Rattle.bench_calls.proofs.Calls.{read_other, read_answered}
use Rattle.bench_calls.proofs.bench_read.Goals as goal

pub returns-then-record-ne32 : goal.returns-then-record-ne32
returns-then-record-ne32 c = let a = c.args in
    let left = read_other a.ring.now a.«record».now a.out.now c.if-record-ne32.true in
    record { answer = c.answer_number.ensures ∙ left.0; kept = left.1.0; bytes = left.1.1 }

pub returns : goal.returns
returns c = let a = c.args in
    let number = c.answer_number-2.ensures ∙ ap answer_number c.read_answer.ensures in
    let h = read_answered a.ring.now a.«record».now a.out.now c.if-record-ne32.false _ _ _ _ _
    c.reader_at-reader.ensures c.read-answered.ensures.answer c.read-answered.ensures.bytes c.keep_reader.ensures number in
    record { answer = h.0; kept = h.1.0; bytes = h.1.1 }
