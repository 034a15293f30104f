-- What was recorded holds few bytes (`record_few`), so that it has a number; `record_answered` joins the recording and its number.
use Rattle.std.proofs.Common.{sym, ◌∙◌}
use Rattle.bench_calls.proofs.Recording.{record_few, record_answered}
use Rattle.bench_calls.proofs.bench_record.Goals as goal

pub recorded_number-requires : goal.recorded_number-requires
recorded_number-requires c = let done = c.record-recorded in
    λ count is. record_few _ _ _ count (sym done.ensures.answer ∙ is)

pub returns : goal.returns
returns c = let done = c.record-recorded in
    let h = record_answered _ _ _ _ _ _ done.ensures.answer done.ensures.bytes c.recorded_number.ensures in
    record { answer = h.0; bytes = h.1 }
