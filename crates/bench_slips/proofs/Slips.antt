-- What a call leaves, by the lengths of record and slip: everything, or what the operation leaves.
-- `copy_answered` and `confirm_answered` join the contracts of the code's steps.
use Prim.Native.Nat.{ℕ}
use mathlib.Core.Path.{◌≡◌, sym, ap, ◌∙◌}
use mathlib.Core.Bool.{Bool, cond}
use mathlib.Core.List.{List}
use borrow.Author.Tests.{eq-eqb, ne_eqb}
use lib.Dec.{eqb}
use lib.ListN.{length}
use Rattle.word_rules.specs.Fields.{put_all}
use Rattle.reader_rules.specs.declared.Reader.{Reader}
use Rattle.slip_rules.specs.Copy.{copy_out}
use Rattle.slip_rules.specs.Confirm.{confirmed}
use Rattle.slip_rules.specs.declared.Slip.{Slip}
use Rattle.bench_calls.specs.Calls.{answer_number, reader_of, reader_fields}
use Rattle.bench_slips.specs.Slips.{held_slip, copy_answer, slip_after, CopyCall, uncopied, answered_copy, copy_call}
use Rattle.bench_slips.specs.Slips.{confirm_answer, ConfirmCall, unconfirmed, answered_confirm, confirm_call}
use Rattle.reader_rules.specs.declared.Answered.{Answered}
use Rattle.slip_rules.specs.declared.Copying.{Copying}
use Rattle.slip_rules.specs.declared.Confirming.{Confirming}

-- two lengths asked in turn
module _ {A : Type 0} (one other : ℕ) (done left : A) where
  abbrev asked : A
  asked = cond (eqb one 32) (cond (eqb other 32) done left) left

  second : one ≡ 32 → asked ≡ cond (eqb other 32) done left
  second h = ap (λ (b : Bool). cond b (cond (eqb other 32) done left) left) (eq-eqb one 32 h)

  pub both_right : one ≡ 32 → other ≡ 32 → asked ≡ done
  both_right h g = second h ∙ ap (λ (b : Bool). cond b done left) (eq-eqb other 32 g)

  pub first_wrong : (one ≡ 32 → ⊥) → asked ≡ left
  first_wrong h = ap (λ (b : Bool). cond b (cond (eqb other 32) done left) left) (ne_eqb one 32 h)

  pub second_wrong : one ≡ 32 → (other ≡ 32 → ⊥) → asked ≡ left
  second_wrong h g = second h ∙ ap (λ (b : Bool). cond b done left) (ne_eqb other 32 g)

-- ---- copying

-- an equation of all that is left, read by parts as the contracts have them
copy_parts : {a b : CopyCall} → a ≡ b → (b.answer ≡ a.answer) × ((b.kept ≡ a.kept) × ((b.slip ≡ a.slip) × (b.out ≡ a.out)))
copy_parts e = (
  sym (ap (λ (x : CopyCall). x.answer) e),
  (sym (ap (λ (x : CopyCall). x.kept) e), (sym (ap (λ (x : CopyCall). x.slip) e), sym (ap (λ (x : CopyCall). x.out) e))),
)

module _ (s bytes slip out : List ℕ) where
  abbrev copies : CopyCall
  copies = copy_call s bytes slip out

  abbrev Left : Type 0
  Left = ((uncopied bytes slip out).answer ≡ copies.answer) × ((bytes ≡ copies.kept) × ((slip ≡ copies.slip) × (out ≡ copies.out)))

  pub copy_other : (length bytes ≡ 32 → ⊥) → Left
  unfolding copy_call
  copy_other h = copy_parts (first_wrong (length bytes) (length slip) (answered_copy bytes slip (copy_out s (reader_of bytes) out)) (uncopied bytes slip out) h)

  pub copy_slip_other : length bytes ≡ 32 → (length slip ≡ 32 → ⊥) → Left
  unfolding copy_call
  copy_slip_other h g =
      copy_parts (second_wrong (length bytes) (length slip) (answered_copy bytes slip (copy_out s (reader_of bytes) out)) (uncopied bytes slip out) h g)

  passed : length bytes ≡ 32 → length slip ≡ 32 → copies ≡ answered_copy bytes slip (copy_out s (reader_of bytes) out)
  unfolding copy_call
  passed h g = both_right (length bytes) (length slip) (answered_copy bytes slip (copy_out s (reader_of bytes) out)) (uncopied bytes slip out) h g

  pub copy_answered : length bytes ≡ 32 → length slip ≡ 32 → (reader : Reader) (copied : Answered Copying) (out' bytes' slip' : List ℕ) (r : ℕ)
      → reader ≡ reader_of bytes → copied ≡ (copy_out s reader out).copied → out' ≡ (copy_out s reader out).out
      → bytes' ≡ put_all bytes (reader_fields copied.reader) → slip' ≡ slip_after slip copied.answer → r ≡ answer_number (copy_answer copied.answer)
      → (r ≡ copies.answer) × ((bytes' ≡ copies.kept) × ((slip' ≡ copies.slip) × (out' ≡ copies.out)))
  copy_answered h g reader copied out' bytes' slip' r held made handed kept written number =
      let same : copied ≡ (copy_out s (reader_of bytes) out).copied = made ∙ ap (λ (v : Reader). (copy_out s v out).copied) held in
      let whole = copy_parts (passed h g) in (
        number ∙ ap (λ (a : Answered Copying). answer_number (copy_answer a.answer)) same ∙ whole.0,
        (
          kept ∙ ap (λ (a : Answered Copying). put_all bytes (reader_fields a.reader)) same ∙ whole.1.0,
          (
            written ∙ ap (λ (a : Answered Copying). slip_after slip a.answer) same ∙ whole.1.1.0,
            handed ∙ ap (λ (v : Reader). (copy_out s v out).out) held ∙ whole.1.1.1,
          ),
        ),
      )

-- ---- confirming

confirm_parts : {a b : ConfirmCall} → a ≡ b → (b.answer ≡ a.answer) × (b.kept ≡ a.kept)
confirm_parts e = (sym (ap (λ (x : ConfirmCall). x.answer) e), sym (ap (λ (x : ConfirmCall). x.kept) e))

module _ (s bytes slip : List ℕ) where
  abbrev confirms : ConfirmCall
  confirms = confirm_call s bytes slip

  abbrev answered : ConfirmCall
  answered = answered_confirm bytes (confirmed s (reader_of bytes) (held_slip slip))

  pub confirm_other : (length bytes ≡ 32 → ⊥) → ((unconfirmed bytes).answer ≡ confirms.answer) × (bytes ≡ confirms.kept)
  unfolding confirm_call
  confirm_other h = confirm_parts (first_wrong (length bytes) (length slip) answered (unconfirmed bytes) h)

  pub confirm_slip_other : length bytes ≡ 32 → (length slip ≡ 32 → ⊥) → ((unconfirmed bytes).answer ≡ confirms.answer) × (bytes ≡ confirms.kept)
  unfolding confirm_call
  confirm_slip_other h g = confirm_parts (second_wrong (length bytes) (length slip) answered (unconfirmed bytes) h g)

  confirm_passed : length bytes ≡ 32 → length slip ≡ 32 → confirms ≡ answered
  unfolding confirm_call
  confirm_passed h g = both_right (length bytes) (length slip) answered (unconfirmed bytes) h g

  pub confirm_answered : length bytes ≡ 32 → length slip ≡ 32 → (reader : Reader) (one : Slip) (done : Answered Confirming) (bytes' : List ℕ) (r : ℕ)
      → reader ≡ reader_of bytes → one ≡ held_slip slip → done ≡ confirmed s reader one → bytes' ≡ put_all bytes (reader_fields done.reader)
      → r ≡ answer_number (confirm_answer done.answer) → (r ≡ confirms.answer) × (bytes' ≡ confirms.kept)
  confirm_answered h g reader one done bytes' r held slipped made kept number =
      let same : done ≡ confirmed s (reader_of bytes) (held_slip slip) =
      made ∙ ap (λ (v : Reader). confirmed s v one) held ∙ ap (confirmed s (reader_of bytes)) slipped in
      let whole = confirm_parts (confirm_passed h g) in (
        number ∙ ap (λ (a : Answered Confirming). answer_number (confirm_answer a.answer)) same ∙ whole.0,
        kept ∙ ap (λ (a : Answered Confirming). put_all bytes (reader_fields a.reader)) same ∙ whole.1,
      )
