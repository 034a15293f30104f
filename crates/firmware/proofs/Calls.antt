-- One call on the bytes of a ring and of its record: it is the emission, its number says the outcome, and it leaves the record's bytes again.
use Prim.Native.Nat.{ℕ}
use native.Mathlib.Omega.{arith}
use mathlib.Core.Path.{◌≡◌, refl, sym, ap, ◌∙◌}
use mathlib.Core.Logic.{inl, inr}
use mathlib.Core.Bool.{Bool}
use mathlib.Core.List.{List}
use Rattle.std.specs.Prelude.{Result, Ok, Err}
use Rattle.table_rules.specs.declared.Refusal.{Refusal}
use Rattle.table_rules.specs.declared.Refusal.TheVariants.{Spent, Far}
use Rattle.writer_rules.specs.declared.Writer.{Writer}
use Rattle.emit_rules.specs.Emit.{AfterEmit, emission}
use Rattle.emit_rules.specs.declared.Label.{Label}
use Rattle.emit_rules.specs.declared.Outcome.{Outcome}
use Rattle.emit_rules.specs.declared.Outcome.TheVariants.{Done, Wake, Dropped}
use Rattle.emit_rules.proofs.Kept.{emission_keeps}
use Rattle.console_rules.specs.Console.{emitted_number, is_refused, record_of, bytes_of, record_after, Called, answered_call}
use Rattle.console_rules.proofs.Header.{told_by_number}
use Rattle.console_rules.proofs.Record.{bytes_length, read_back}
use Rattle.console_rules.proofs.Calls.{refused_leaves, done_writes, record_read}
use Rattle.history.specs.Ring.{Ring}
use Rattle.promise.specs.Bytes.{Event, size, label_of, State, consumed, Turn, left}
use Rattle.promise.proofs.Opened.{emitted}
use Rattle.promise.specs.Holds.{Holds}
use Rattle.promise.specs.Demand2.{Given}
use Rattle.promise.proofs.Given.{given_one}
use Rattle.firmware.specs.Firmware.{means, as_seen, recalled}

-- a number means the outcome that it is given for
means_back : (capacity last write size : ℕ) (waits : Bool) (o : Result Outcome Refusal) → Given capacity last write size waits o → means (emitted_number o) ≡ o
means_back capacity last write size waits (Ok Done) g = refl
means_back capacity last write size waits (Ok Wake) g = refl
means_back capacity last write size waits (Ok Dropped) g = refl
means_back capacity last write size waits (Err r) (inl g) =
    ap means (told_by_number r (λ e. omega (arith, g.0, e)) ∙ g.0) ∙ given_one capacity last write size waits (Err Spent) (Err r) (inl (refl, g.1)) (inl g)
means_back capacity last write size waits (Err r) (inr g) =
    ap means (told_by_number r (λ e. omega (arith, g.0, e)) ∙ g.0) ∙ given_one capacity last write size waits (Err Far) (Err r) (inr (refl, g.1, g.2, g.3)) (inr g)

-- a record that goes with a ring is read back from its bytes
pub holds_read : (cpu capacity : ℕ) (s : List ℕ) (w : Writer) (ring : Ring Event) → Holds cpu capacity s w ring → record_of (bytes_of w) ≡ w
holds_read cpu capacity s w ring h =
    read_back w (omega (arith, h.last_is, h.holding.spendable)) (omega (arith, h.dropped_is, h.holding.spendable, h.holding.counts))
    (omega (arith, h.overwritten_is, h.holding.spendable, h.holding.counts))

-- ---- a call

-- what C holds where the core holds this
abbrev pub held : ℕ → State → Called
held n s = record { answer = n; ring = s.ring; kept = bytes_of s.writer }

-- what C then sees of an emission is what it left
pub seen_back : (cpu capacity last write size : ℕ) (waits : Bool) (a : AfterEmit) (ring : Ring Event)
    → Given capacity last write size waits a.answer.outcome
    → Holds cpu capacity a.ring a.answer.writer ring → as_seen (held (emitted_number a.answer.outcome) (left a)) ≡ a
seen_back cpu capacity last write size waits a ring g h =
    let outcome = means_back capacity last write size waits a.answer.outcome g in
    let writer = holds_read cpu capacity a.ring a.answer.writer ring h in
    λ i. record { answer = record { outcome = outcome i; writer = writer i }; ring = a.ring }

-- a refusal leaves the record, any other outcome writes the one handed back
kept_is : (s : List ℕ) (w : Writer) (label : Label) (payload : List ℕ) (o : Result Outcome Refusal) → (emission s w label payload).answer.outcome ≡ o
    → record_after (bytes_of w) (emission s w label payload).answer ≡ bytes_of (emission s w label payload).answer.writer
kept_is s w label payload (Ok Done) e = sym (done_writes (bytes_of w) (emission s w label payload).answer (ap is_refused e))
kept_is s w label payload (Ok Wake) e = sym (done_writes (bytes_of w) (emission s w label payload).answer (ap is_refused e))
kept_is s w label payload (Ok Dropped) e = sym (done_writes (bytes_of w) (emission s w label payload).answer (ap is_refused e))
kept_is s w label payload (Err r) e =
    sym (refused_leaves (bytes_of w) (emission s w label payload).answer (ap is_refused e))
    ∙ ap (λ (a : AfterEmit). bytes_of a.answer.writer) (sym (emission_keeps s w label payload r e))

module _ (cpu capacity : ℕ) (s : State) (ring : Ring Event) (h : Holds cpu capacity s.ring s.writer ring) (t : Turn) where
  pub recalled_is : (n : ℕ) → recalled (held n s) t ≡ held (emitted_number (emitted s t).answer.outcome) (left (emitted s t))
  recalled_is n =
      let bytes : List ℕ = bytes_of s.writer in
      let e : Event = t.event in
      let now : List ℕ = consumed s.ring t.page in
      record_read now bytes e.timestamp e.type e.class e.payload (bytes_length s.writer)
      ∙ ap (λ (w : Writer). answered_call bytes (emission now w (label_of e) e.payload)) (holds_read cpu capacity s.ring s.writer ring h)
      ∙ ap (λ (b : List ℕ). record { answer = emitted_number (emitted s t).answer.outcome; ring = (emitted s t).ring; kept = b })
      (kept_is now s.writer (label_of e) e.payload (emitted s t).answer.outcome refl)
