-- RULES 3.6, 6.5: which events have a reason, which reason that is, and which of them an emission gives.
use Rattle.std.specs.Prelude.{ℕ, ◌≤◌, Err}
use mathlib.Core.{Path.◌≡◌, Logic.◌↔◌, Bool.true, Bool.false, List.List}
use lib.{ListN.length}
use Rattle.table_rules.specs.{declared.Damage.Damage, declared.Refusal.TheVariants.Damaged}
use Rattle.event_rules.specs.{Event.sequence, Event.well_formed, Event.reason_of, Run.passable, Run.reason_after}
use Rattle.writer_rules.specs.{declared.Writer.Writer}
use Rattle.emit_rules.specs.{Emit.emission, declared.Label.Label}

pub record Reasons : Type 0 where
  -- by its form: from 1 to 6 exactly if it isn't well formed
  pub form : (cpu : ℕ) (bs : List ℕ)
      → (well_formed cpu bs ≡ false) ↔ ((1 ≤ reason_of cpu (length bs) bs) × (reason_of cpu (length bs) bs ≤ 6))
  -- behind a sequence: from 1 to 7 exactly if it doesn't pass
  pub pass : (cpu last : ℕ) (bs : List ℕ)
      → (passable cpu last bs ≡ false) ↔ ((1 ≤ reason_after cpu last bs) × (reason_after cpu last bs ≤ 7))
  -- 7 exactly if it is well formed and its sequence doesn't rise; one that isn't well formed has the reason of its form
  pub sequence_low : (cpu last : ℕ) (bs : List ℕ) → (reason_after cpu last bs ≡ 7) ↔ ((well_formed cpu bs ≡ true) × (sequence bs ≤ last))
  pub form_first : (cpu last : ℕ) (bs : List ℕ) → well_formed cpu bs ≡ false → reason_after cpu last bs ≡ reason_of cpu (length bs) bs
  -- never 1, never 7
  pub emit : (s : List ℕ) (w : Writer) (label : Label) (payload : List ℕ) (damage : Damage)
      → (emission s w label payload).answer.outcome ≡ Err (Damaged damage) → (2 ≤ damage.reason) × (damage.reason ≤ 6)
