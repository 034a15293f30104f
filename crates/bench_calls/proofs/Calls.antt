-- What a call leaves, by its record's length: everything, or what the operation leaves.
-- `read_answered` and `swap_answered` join the contracts of the code's steps.
use Rattle.std.proofs.Common.{◌≡◌, ℕ, List, length, sym, ap, ◌∙◌, eq-eqb, ne_eqb}
use Rattle.word_rules.specs.Fields.{put_all}
use Rattle.writer_rules.specs.declared.Writer.{Writer}
use Rattle.reader_rules.specs.Read.{read_out}
use Rattle.reader_rules.specs.declared.Reader.{Reader}
use Rattle.swap_rules.specs.Swap.{exchange}
use Rattle.console_rules.specs.Console.{record_of, record_after, emitted_number}
use Rattle.bench_calls.specs.Calls.{answer_number, read_answer, reader_of, reader_fields, Read, unread, answered_read, read_call}
use Rattle.bench_calls.specs.Calls.{as_emitted, Exchanged, unswapped, answered_swap, swap_call}
use Rattle.reader_rules.specs.declared.Answered.{Answered}
use Rattle.writer_rules.specs.declared.Written.{Written}
use Rattle.reader_rules.specs.declared.Reading.{Reading}
use Rattle.swap_rules.specs.declared.SwapOutcome.{SwapOutcome}
use Rattle.emit_rules.specs.declared.Outcome.{Outcome}

-- an equation of all that is left, read by parts as the contracts have them
read_parts : {a b : Read} → a ≡ b → (b.answer ≡ a.answer) × ((b.kept ≡ a.kept) × (b.out ≡ a.out))
read_parts e = (sym (ap (λ (x : Read). x.answer) e), (sym (ap (λ (x : Read). x.kept) e), sym (ap (λ (x : Read). x.out) e)))

swap_parts : {a b : Exchanged} → a ≡ b → (b.answer ≡ a.answer) × ((b.old ≡ a.old) × ((b.new ≡ a.new) × (b.kept ≡ a.kept)))
swap_parts e = (
  sym (ap (λ (x : Exchanged). x.answer) e),
  (sym (ap (λ (x : Exchanged). x.old) e), (sym (ap (λ (x : Exchanged). x.new) e), sym (ap (λ (x : Exchanged). x.kept) e))),
)

module _ (s bytes out : List ℕ) where
  abbrev read : Read
  read = read_call s bytes out

  pub read_other : (length bytes ≡ 32 → ⊥) → ((unread bytes out).answer ≡ read.answer) × ((bytes ≡ read.kept) × (out ≡ read.out))
  unfolding read_call
  read_other h =
      let all : read ≡ unread bytes out = rw (ne_eqb (length bytes) 32 h) in
      read_parts all

  passed : length bytes ≡ 32 → read ≡ answered_read bytes (read_out s (reader_of bytes) out)
  unfolding read_call
  passed h = rw (eq-eqb (length bytes) 32 h)

  pub read_answered : length bytes ≡ 32 → (reader : Reader) (answered : Answered Reading) (out' bytes' : List ℕ) (r : ℕ) → reader ≡ reader_of bytes
      → answered ≡ (read_out s reader out).answered → out' ≡ (read_out s reader out).out → bytes' ≡ put_all bytes (reader_fields answered.reader)
      → r ≡ answer_number (read_answer answered.answer) → (r ≡ read.answer) × ((bytes' ≡ read.kept) × (out' ≡ read.out))
  read_answered h reader answered out' bytes' r held made handed kept number =
      let same : answered ≡ (read_out s (reader_of bytes) out).answered = made ∙ ap (λ (v : Reader). (read_out s v out).answered) held in
      let whole = read_parts (passed h) in (
        number ∙ ap (λ (a : Answered Reading). answer_number (read_answer a.answer)) same ∙ whole.0,
        (
          kept ∙ ap (λ (a : Answered Reading). put_all bytes (reader_fields a.reader)) same ∙ whole.1.0,
          handed ∙ ap (λ (v : Reader). (read_out s v out).out) held ∙ whole.1.1,
        ),
      )

module _ (s t bytes : List ℕ) where
  abbrev swapped : Exchanged
  swapped = swap_call s t bytes

  pub swap_other : (length bytes ≡ 24 → ⊥)
      → ((unswapped s t bytes).answer ≡ swapped.answer) × ((s ≡ swapped.old) × ((t ≡ swapped.new) × (bytes ≡ swapped.kept)))
  unfolding swap_call
  swap_other h =
      let all : swapped ≡ unswapped s t bytes = rw (ne_eqb (length bytes) 24 h) in
      swap_parts all

  swap_passed : length bytes ≡ 24 → swapped ≡ answered_swap bytes (exchange s t (record_of bytes))
  unfolding swap_call
  swap_passed h = rw (eq-eqb (length bytes) 24 h)

  pub swap_answered : length bytes ≡ 24 → (w : Writer) (answer : Written SwapOutcome) (emitted : Written Outcome) (s' t' bytes' : List ℕ) (r : ℕ) → w ≡ record_of bytes
      → answer ≡ (exchange s t w).answer → s' ≡ (exchange s t w).old → t' ≡ (exchange s t w).new → emitted ≡ as_emitted answer
      → bytes' ≡ record_after bytes emitted → r ≡ emitted_number emitted.outcome
      → (r ≡ swapped.answer) × ((s' ≡ swapped.old) × ((t' ≡ swapped.new) × (bytes' ≡ swapped.kept)))
  swap_answered h w answer emitted s' t' bytes' r held made left right told kept number =
      let same : emitted ≡ as_emitted (exchange s t (record_of bytes)).answer =
      told ∙ ap as_emitted (made ∙ ap (λ (v : Writer). (exchange s t v).answer) held) in
      let whole = swap_parts (swap_passed h) in (
        number ∙ ap (λ (e : Written Outcome). emitted_number e.outcome) same ∙ whole.0,
        (
          left ∙ ap (λ (v : Writer). (exchange s t v).old) held ∙ whole.1.0,
          (right ∙ ap (λ (v : Writer). (exchange s t v).new) held ∙ whole.1.1.0, kept ∙ ap (record_after bytes) same ∙ whole.1.1.1),
        ),
      )
