-- The bytes put are few enough for a number: a ring that is opened and inspected has no more than its capacity between tail and write.
-- `record_answered` joins the contracts of the code's two steps.
use Rattle.std.specs.Prelude.{Result, Ok, Err}
use Rattle.std.proofs.Common.{◌≡◌, ℕ, ◌≤◌, Bool, true, false, List, length, sym, refl, ap, ◌∙◌, subst, arith}
use Rattle.table_rules.specs.declared.Refusal.{Refusal}
use Rattle.table_rules.proofs.Laws.{stops, answers}
use Rattle.page_rules.specs.Page.{on_ring, opened}
use Rattle.page_rules.specs.declared.Page.{Page}
use Rattle.page_rules.proofs.Facts.{Sound}
use Rattle.page_rules.proofs.Rows.{ring_sound, ring_refused, ring_opened}
use Rattle.inspect_rules.specs.Inspect.{damaged}
use Rattle.inspect_rules.proofs.Answers.{reaches_end}
use Rattle.recording_rules.specs.Recording.{recording_of, recording_rows, piece, AfterRecord, not_recorded, put_in_front, recorded_on, recorded}
use Rattle.recording_rules.proofs.Pieces.{piece_length}
use Rattle.recording_rules.proofs.Whole.{recording_fits}
use Rattle.bench_calls.specs.Calls.{recorded_number, record_call}

module _ (s : List ℕ) (placed : ℕ) (out : List ℕ) where
  abbrev Few : AfterRecord → Type 0
  Few after = (count : ℕ) → after.answer ≡ Ok count → count ≤ 1048608

  refused_few : (r : Refusal) → Few (not_recorded out r)
  refused_few r count e = let z : ◌≡◌ {A = ℕ} 0 1 = cc in absurd (omega arith)

  opened_few : (p : Page) → Sound s p → (b : Bool) → damaged s p ≡ b → Few (recorded_on s p placed out)
  unfolding recorded_on recording_rows
  opened_few p h true bad = subst Few (sym (stops (not_recorded out) _ 0 (recording_rows s p placed) _ (bad, refl))) (refused_few _)
  opened_few p h false good =
      let bytes = piece (recording_of s) placed (length out) in
      let fits = recording_fits s p h (reaches_end s p good) in
      let put : Few (put_in_front bytes out) = λ count e.
      let is : length bytes ≡ count = cc in
      omega (arith, piece_length (recording_of s) placed (length out), fits) in
      answers Few (not_recorded out) (put_in_front bytes out) refused_few put (recording_rows s p placed)

  -- no more is put than the largest ring's recording has
  pub record_few : Few (recorded s placed out)
  unfolding recorded
  record_few = by (opened s) refl
    where
      by : (o : Result Page Refusal) → o ≡ opened s → Few (on_ring s (not_recorded out) (λ p. recorded_on s p placed out))
      by (Err r) is = subst Few (sym (ring_refused _ _ s is refl)) (refused_few r)
      by (Ok p) is =
          subst Few (sym (ring_opened _ _ s is refl)) (opened_few p (ring_sound s is refl) (damaged s p) refl)

  pub record_answered : (answer : Result ℕ Refusal) (out' : List ℕ) (r : ℕ) → answer ≡ (recorded s placed out).answer → out' ≡ (recorded s placed out).out
      → r ≡ recorded_number answer → (r ≡ (record_call s placed out).answer) × (out' ≡ (record_call s placed out).out)
  unfolding record_call
  record_answered answer out' r is bytes number = (number ∙ ap recorded_number is, bytes)
