-- Copying and confirming by number, with record and slip in bytes: the operations' definitions, called as reading is.
use Rattle.std.specs.Prelude.{ℕ, Result, Ok, Err}
use Rattle.table_rules.specs.declared.Refusal.{Refusal}
use mathlib.Core.{Bool.cond, List.List, List.[], List.◌∷◌}
use lib.{ListN.length, Dec.eqb}
use Rattle.word_rules.specs.{Number.number, Fields.Field, Fields.put_all}
use Rattle.slip_rules.specs.{Copy.AfterCopy, Copy.copy_out, Confirm.confirmed}
use Rattle.slip_rules.specs.{declared.Slip.Slip, declared.Copying.Copying, declared.Confirming.Confirming}
use Rattle.slip_rules.specs.declared.Copying.TheVariants as copies
use Rattle.slip_rules.specs.declared.Confirming.TheVariants as confirms
use Rattle.bench_calls.specs.{Calls.answer_number, Calls.reader_of, Calls.reader_fields, declared.BenchAnswer.BenchAnswer}
use Rattle.bench_calls.specs.declared.BenchAnswer.TheVariants as answers
use Rattle.reader_rules.specs.declared.Answered.{Answered}

abbrev pub held_slip : List ℕ → Slip
held_slip bytes = record { position = number bytes 0 8; size = number bytes 8 8; sequence = number bytes 16 8; tail_seen = number bytes 24 8 }

abbrev pub slip_fields : Slip → List Field
slip_fields slip =
    record { offset = 0; size = 8; content = slip.position }
    ∷ record { offset = 8; size = 8; content = slip.size }
    ∷ record { offset = 16; size = 8; content = slip.sequence }
    ∷ record { offset = 24; size = 8; content = slip.tail_seen }
    ∷ []

-- ---- copying

abbrev pub copy_answer : Result Copying Refusal → Result BenchAnswer Refusal
copy_answer (Ok (copies.Event slip)) = Ok answers.Done
copy_answer (Ok copies.Empty) = Ok answers.Empty
copy_answer (Ok copies.Moved) = Ok answers.Moved
copy_answer (Err r) = Err r

-- a slip is written for an event alone
abbrev pub slip_after : List ℕ → Result Copying Refusal → List ℕ
slip_after bytes (Ok (copies.Event slip)) = put_all bytes (slip_fields slip)
slip_after bytes (Ok copies.Empty) = bytes
slip_after bytes (Ok copies.Moved) = bytes
slip_after bytes (Err r) = bytes

pub record CopyCall : Type 0 where
  pub answer : ℕ
  pub kept : List ℕ
  pub slip : List ℕ
  pub out : List ℕ

-- a record or a slip of another length: nothing is copied, and nothing written
abbrev pub uncopied : List ℕ → List ℕ → List ℕ → CopyCall
uncopied bytes slip out = record { answer = answer_number (Ok answers.RecordLength); kept = bytes; slip = slip; out = out }

abbrev pub answered_copy : List ℕ → List ℕ → AfterCopy → CopyCall
answered_copy bytes slip after =
    record {
      answer = answer_number (copy_answer after.copied.answer);
      kept = put_all bytes (reader_fields after.copied.reader);
      slip = slip_after slip after.copied.answer;
      out = after.out;
    }

unfoldable pub copy_call : List ℕ → List ℕ → List ℕ → List ℕ → CopyCall
copy_call s bytes slip out =
    cond (eqb (length bytes) 32)
    (cond (eqb (length slip) 32) (answered_copy bytes slip (copy_out s (reader_of bytes) out)) (uncopied bytes slip out))
    (uncopied bytes slip out)

-- ---- confirming

abbrev pub confirm_answer : Result Confirming Refusal → Result BenchAnswer Refusal
confirm_answer (Ok confirms.Done) = Ok answers.Done
confirm_answer (Ok confirms.Again) = Ok answers.Again
confirm_answer (Err r) = Err r

pub record ConfirmCall : Type 0 where
  pub answer : ℕ
  pub kept : List ℕ

abbrev pub unconfirmed : List ℕ → ConfirmCall
unconfirmed bytes = record { answer = answer_number (Ok answers.RecordLength); kept = bytes }

abbrev pub answered_confirm : List ℕ → Answered Confirming → ConfirmCall
answered_confirm bytes confirmation =
    record {
      answer = answer_number (confirm_answer confirmation.answer);
      kept = put_all bytes (reader_fields confirmation.reader);
    }

unfoldable pub confirm_call : List ℕ → List ℕ → List ℕ → ConfirmCall
confirm_call s bytes slip =
    cond (eqb (length bytes) 32)
    (cond (eqb (length slip) 32) (answered_confirm bytes (confirmed s (reader_of bytes) (held_slip slip))) (unconfirmed bytes))
    (unconfirmed bytes)
