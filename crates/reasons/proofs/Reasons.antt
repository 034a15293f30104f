-- The reasons by an event's form and sequence; an emission's by the place where its walk stops, which lies more than half the capacity before write_pos.
use Prim.Native.Nat.{ℕ, zero, suc, ◌-◌, ◌≤◌, ◌<◌}
use native.Mathlib.Omega.{arith}
use mathlib.Core.Path.{◌≡◌, refl, sym, ap, ◌∙◌}
use mathlib.Core.Logic.{⊎_elim}
use mathlib.Core.Bool.{true, false, true≢false}
use mathlib.Core.List.{List}
use lib.ListN.{length}
use Rattle.std.specs.Prelude.{Result, Ok, Err}
use Rattle.page_rules.specs.declared.Page.{Page}
use Rattle.table_rules.specs.declared.Refusal.{Refusal}
use Rattle.table_rules.specs.Table.{Stops}
use Rattle.table_rules.proofs.Tests.{either, false_unless, le_or_lt}
use Rattle.table_rules.specs.declared.Damage.{Damage}
use Rattle.table_rules.specs.declared.Refusal.TheVariants.{Damaged}
use Rattle.capacity_rules.proofs.Laws.{allowed_range}
use Rattle.page_rules.specs.Page.{page_rows, opened}
use Rattle.page_rules.proofs.Opening.{refused_when}
use Rattle.page_rules.proofs.Rows.{ring_refused}
use Rattle.page_rules.proofs.Sound.{sound}
use Rattle.event_rules.specs.Event.{sequence, well_formed, reason_of}
use Rattle.event_rules.specs.Run.{passable, reason_after}
use Rattle.event_rules.proofs.Reasons.{reason_ill, reason_well, reason_long, after_ill, after_low, after_passes}
use Rattle.event_rules.proofs.Runs.{passable_is}
use Rattle.look_rules.specs.Live.{rest}
use Rattle.look_rules.proofs.Laws.{rest_length}
use Rattle.writer_rules.specs.declared.Writer.{Writer}
use Rattle.emit_rules.specs.Emit.{AfterEmit, refuse, emitted_on, emission}
use Rattle.emit_rules.specs.declared.Label.{Label}
use Rattle.promise.proofs.Places.{places}
use Rattle.reasons.specs.Reasons.{Reasons}

differ : {A : Type 0} → ◌≡◌ {A = ℕ} 0 1 → A
differ z = absurd (let never : ⊥ = omega arith in never)

-- ---- an event's form and sequence

module _ (cpu : ℕ) (bs : List ℕ) where
  formed : (1 ≤ reason_of cpu (length bs) bs) × (reason_of cpu (length bs) bs ≤ 6) → well_formed cpu bs ≡ false
  formed h = false_unless (well_formed cpu bs) (λ well. omega (arith, h.0, reason_well cpu bs well))

  module _ (last : ℕ) where
    -- the three ways it can go
    by_way : {P : Type 0}
        → (well_formed cpu bs ≡ false → P) → (well_formed cpu bs ≡ true → sequence bs ≤ last → P) → (passable cpu last bs ≡ true → P) → P
    by_way ill low passes =
        ⊎_elim
        (λ (well : well_formed cpu bs ≡ true).
        ⊎_elim (low well) (λ (above : last < sequence bs). passes (passable_is cpu last bs well above)) (le_or_lt (sequence bs) last))
        ill
        (either (well_formed cpu bs))

    never_both : passable cpu last bs ≡ true → passable cpu last bs ≡ false → ⊥
    never_both is isn't = true≢false (sym is ∙ isn't)

    passing : passable cpu last bs ≡ false → (1 ≤ reason_after cpu last bs) × (reason_after cpu last bs ≤ 7)
    passing stopped =
        by_way
        (λ ill. let six = reason_ill cpu bs ill in (omega (arith, six.0, after_ill cpu bs last ill), omega (arith, six.1, after_ill cpu bs last ill)))
        (λ well low. let seven = after_low cpu bs last well low in (omega (arith, seven), omega (arith, seven)))
        (λ is. absurd (never_both is stopped))

    not_passing : (1 ≤ reason_after cpu last bs) × (reason_after cpu last bs ≤ 7) → passable cpu last bs ≡ false
    not_passing h = false_unless (passable cpu last bs) (λ is. omega (arith, h.0, after_passes cpu bs last is))

    seventh : reason_after cpu last bs ≡ 7 → (well_formed cpu bs ≡ true) × (sequence bs ≤ last)
    seventh e =
        by_way
        (λ ill. absurd (let z : ⊥ = omega (arith, e, after_ill cpu bs last ill, (reason_ill cpu bs ill).1) in z))
        (λ well low. (well, low))
        (λ is. absurd (let z : ⊥ = omega (arith, e, after_passes cpu bs last is) in z))

-- ---- an emission's

-- 1 to 6 bear no damage
page_never : (s : List ℕ) (damage : Damage) → opened s ≡ Err (Damaged damage) → ⊥
unfolding page_rows
page_never s damage e = let row = refused_when s (Damaged damage) e in by row.0 row.1
  where
    by : (turn : ℕ) → Stops turn (page_rows s) (Damaged damage) → ⊥
    by zero r = differ (cc r.1)
    by (suc zero) r = differ (cc r.1.1)
    by (suc (suc zero)) r = differ (cc r.1.1.1)
    by (suc (suc (suc zero))) r = differ (cc r.1.1.1.1)
    by (suc (suc (suc (suc zero)))) r = differ (cc r.1.1.1.1.1)
    by (suc (suc (suc (suc (suc zero))))) r = differ (cc r.1.1.1.1.1.1)
    by (suc (suc (suc (suc (suc (suc turn)))))) r = r.1.1.1.1.1.1

emitting : (s : List ℕ) (w : Writer) (label : Label) (payload : List ℕ) (damage : Damage)
    → (emission s w label payload).answer.outcome ≡ Err (Damaged damage) → (2 ≤ damage.reason) × (damage.reason ≤ 6)
unfolding emission
emitting s w label payload damage e = by (opened s) refl
  where
    by : (o : Result Page Refusal) → opened s ≡ o → (2 ≤ damage.reason) × (damage.reason ≤ 6)
    by (Err r) is =
        let told : Err r ≡ Err (Damaged damage) =
        sym (ap (λ (a : AfterEmit). a.answer.outcome) (ring_refused (refuse s w) (λ p. emitted_on s p w label payload) s (sym is) refl)) ∙ e in
        let that : r ≡ Damaged damage = cc in
        absurd (page_never s damage (is ∙ ap Err that))
    by (Ok p) is =
        let h = sound s p is in
        let there = ((places s p is damage).emit w label payload).0 e in
        let bs : List ℕ = rest s p damage.position in
        let left : length bs ≡ p.write_pos - damage.position = rest_length s p damage.position in
        let why : damage.reason ≡ reason_of p.cpu_id (length bs) bs = there.6 ∙ ap (λ (n : ℕ). reason_of p.cpu_id n bs) (sym left) in
        let long : 32 ≤ length bs = omega (arith, left, there.1.1, there.4, allowed_range p.capacity h.fit) in
        (omega (arith, why, reason_long p.cpu_id bs long there.5), omega (arith, why, (reason_ill p.cpu_id bs there.5).1))

pub reasons : Reasons
reasons =
    record {
      form = λ cpu bs. (reason_ill cpu bs, formed cpu bs);
      pass = λ cpu last bs. (passing cpu bs last, not_passing cpu bs last);
      sequence_low = λ cpu last bs. (seventh cpu bs last, λ h. after_low cpu bs last h.0 h.1);
      form_first = λ cpu last bs. after_ill cpu bs last;
      emit = emitting;
    }
