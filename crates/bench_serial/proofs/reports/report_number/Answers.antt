-- Each arm's number is that of the report which it matched.
use Rattle.std.proofs.Common.{ℕ, ◌+◌, ◌%◌, ◌^◌, refl, ap, ◌∙◌, arith}
use Rattle.bench_serial.proofs.Numbers.{nothing_number, refused_number, head_number, kept_number, stretch_number, counts_number, fault_number_lem}
use Rattle.bench_serial.proofs.reports.report_number.Goals as goal

pub returns-in-Nothing : goal.returns-in-Nothing
returns-in-Nothing c = nothing_number _ _ _ 0 c.in-Nothing.is refl

pub returns-in-Head : goal.returns-in-Head
returns-in-Head c = head_number _ _ _ c.get.result c.in-Head.is (omega arith) c.get.ensures

pub returns-in-KeptHead : goal.returns-in-KeptHead
returns-in-KeptHead c = kept_number _ _ _ c.get-in-KeptHead.result c.in-KeptHead.is (omega arith) c.get-in-KeptHead.ensures

pub returns-in-Stretch : goal.returns-in-Stretch
returns-in-Stretch c = stretch_number _ _ _ _ _ _ c.in-Stretch.is refl

pub returns-in-Counts : goal.returns-in-Counts
returns-in-Counts c = counts_number _ _ _ _ _ _ c.in-Counts.is refl

pub returns-in-Fault : goal.returns-in-Fault
returns-in-Fault c = fault_number_lem _ _ _ _ _ _ c.in-Fault.is
    (ap (λ (n : ℕ). (n + c.in-Fault.place) % 2 ^ 64) c.fault_number.ensures)

pub returns-in-Refused : goal.returns-in-Refused
returns-in-Refused c = refused_number _ _ _ 0 c.in-Refused.is refl
