-- Each operation, put together: creation by its one row, the call for an emission by the emission.
use Prim.Native.Nat.{ℕ, ◌-◌}
use mathlib.Core.Path.{◌≡◌, refl, sym, ap, ◌∙◌}
use mathlib.Core.Logic.{inl, inr, ⊎_elim}
use mathlib.Core.Bool.{true, false}
use mathlib.Core.List.{List}
use lib.ListN.{length}
use Rattle.std.specs.Prelude.{Err}
use Rattle.table_rules.specs.declared.Refusal.TheVariants.{Size}
use Rattle.table_rules.proofs.Laws.{answers_both}
use Rattle.table_rules.proofs.Tests.{either}
use Rattle.page_rules.specs.Fresh.{blank}
use Rattle.create_rules.specs.Create.{wrong_size, created, after_create}
use Rattle.create_rules.proofs.Laws.{size_refused, size_passed}
use Rattle.emit_rules.specs.declared.Label.{Label}
use Rattle.console_rules.specs.Console.{emitted_number, record_of, record_after, Called, refused_call, record_rows, emit_call}
use Rattle.looked_at.specs.LookedAt.{Agree, AgreeStill, MadeAlike, LookedAt}
use Rattle.looked_at.proofs.Writes.{unwritten}
use Rattle.looked_at.proofs.Looks.{inspected_same, attached_same, read_same, copied_same, followed_same, recorded_same, verified_same}
use Rattle.looked_at.proofs.Confirm.{confirmed_same}
use Rattle.looked_at.proofs.Emission.{emission_agree}
use Rattle.looked_at.proofs.Swap.{exchange_agree}
use Rattle.writer_rules.specs.declared.Written.{Written}
use Rattle.emit_rules.specs.declared.Outcome.{Outcome}

module _ (s t : List ℕ) where
  created_agree : length t ≡ length s → (cpu : ℕ)
      → (created t ≡ created s) × MadeAlike (λ r. created s ≡ Err r) s t (after_create cpu s) (after_create cpu t)
  unfolding wrong_size
  created_agree long cpu =
      let same : wrong_size t ≡ wrong_size s = rw long in
      ⊎_elim
      (λ (e : wrong_size s ≡ true).
      let a = size_refused cpu s e in
      let b = size_refused cpu t (same ∙ e) in
      (b.0 ∙ sym a.0, inr (Size, a.0, a.1, b.1)))
      (λ (e : wrong_size s ≡ false).
      let a = size_passed cpu s e in
      let b = size_passed cpu t (same ∙ e) in
      (b.0 ∙ sym a.0, inl (b.1 ∙ ap (λ (n : ℕ). blank cpu (n - 8192) 1) long ∙ sym a.1)))
      (either (wrong_size s))

  abbrev Agreeing : Called → Called → Type 0
  Agreeing a b = (b.answer ≡ a.answer) × (b.kept ≡ a.kept) × AgreeStill s t a.ring b.ring

  call_agree : Agree s t → (bytes : List ℕ) (timestamp type class : ℕ) (payload : List ℕ)
      → Agreeing (emit_call s bytes timestamp type class payload) (emit_call t bytes timestamp type class payload)
  unfolding emit_call
  call_agree g bytes timestamp type class payload =
      let label : Label = record { timestamp = timestamp; event_type = type; origin_class = class } in
      let e = emission_agree g (record_of bytes) label payload in
      answers_both Agreeing (refused_call s bytes) (refused_call t bytes) _ _ (λ r. (refl, refl, unwritten s t))
      (ap (λ (x : Written Outcome). emitted_number x.outcome) e.0, ap (record_after bytes) e.0, e.1)
      (record_rows bytes)

pub looked_at : (s t : List ℕ) → LookedAt s t
looked_at s t =
    record {
      create = created_agree s t;
      emit = λ g w label payload. emission_agree g w label payload;
      inspect = λ g. inspected_same g;
      attach = λ g reader. attached_same g reader;
      read = λ g reader out. read_same g reader out;
      copy = λ g reader out. copied_same g reader out;
      confirm = λ g reader slip. confirmed_same g reader slip;
      follow = λ g reader. followed_same g reader;
      swap = λ g new new' long w. exchange_agree g new new' long w;
      recording = λ g placed out. recorded_same g placed out;
      verify = λ g file. verified_same g file;
      emit_c = call_agree s t;
    }
