-- At most one outcome is to be given to a call, so the one that is given is given exactly then.
use Prim.Native.Nat.{ℕ, ◌≤◌}
use native.Mathlib.Omega.{arith}
use mathlib.Core.Path.{◌≡◌, refl, sym, ap, ◌∙◌, subst}
use mathlib.Core.Logic.{inl, inr, ◌↔◌}
use mathlib.Core.Bool.{Bool, true, false, cond}
use lib.Dec.{eqb}
use Rattle.std.specs.Prelude.{Result, Ok, Err}
use Rattle.table_rules.specs.Refusals.{paper_number}
use Rattle.table_rules.specs.declared.Refusal.{Refusal}
use Rattle.table_rules.specs.declared.Refusal.TheVariants as refusal
use Rattle.emit_rules.specs.declared.Outcome.{Outcome}
use Rattle.emit_rules.specs.declared.Outcome.TheVariants.{Done, Wake, Dropped}
use Rattle.promise.specs.Demand2.{Acceptable, Given}

-- of the refusals, the numbers 8 and 9 each mean one
abbrev eighth_or_ninth : ℕ → Refusal
eighth_or_ninth n = cond (eqb n 8) refusal.Spent refusal.Far

known : (r : Refusal) → 8 ≤ paper_number r → paper_number r ≤ 9 → r ≡ eighth_or_ninth (paper_number r)
known refusal.Short low high = absurd (omega arith)
known refusal.Magic low high = absurd (omega arith)
known refusal.Version low high = absurd (omega arith)
known refusal.Layout low high = absurd (omega arith)
known refusal.Length low high = absurd (omega arith)
known refusal.Position low high = absurd (omega arith)
known refusal.Writer low high = absurd (omega arith)
known refusal.Spent low high = refl
known refusal.Far low high = refl
known (refusal.Damaged damage) low high = absurd (omega arith)
known refusal.Disagree low high = absurd (omega arith)
known refusal.Reader low high = absurd (omega arith)
known refusal.Out low high = absurd (omega arith)
known refusal.Generation low high = absurd (omega arith)
known refusal.Size low high = absurd (omega arith)
known refusal.Record low high = absurd (omega arith)

same_number : (r q : Refusal) (n : ℕ) → 8 ≤ n → n ≤ 9 → paper_number r ≡ n → paper_number q ≡ n → r ≡ q
same_number r q n low high e f =
    known r (omega arith) (omega arith) ∙ ap eighth_or_ninth (e ∙ sym f) ∙ sym (known q (omega arith) (omega arith))

module _ (capacity last write size : ℕ) (waits : Bool) where
  differ : waits ≡ true → waits ≡ false → ⊥
  differ so not_so = let z : ◌≡◌ {A = ℕ} 0 1 = cc in omega arith

  not_refused : (r : Refusal) → Acceptable capacity last write size → Given capacity last write size waits (Err r) → ⊥
  not_refused r a (inl q) = a.0 q.1
  not_refused r a (inr q) = omega (arith, a.2, q.3)

  not_dropped_refused : (r : Refusal) → Given capacity last write size waits (Ok Dropped) → Given capacity last write size waits (Err r) → ⊥
  not_dropped_refused r d (inl q) = d.0 q.1
  not_dropped_refused r d (inr q) = omega (arith, d.1, q.2)

  one_refusal : (r q : Refusal) → Given capacity last write size waits (Err r) → Given capacity last write size waits (Err q) → r ≡ q
  one_refusal r q (inl a) (inl b) = same_number r q 8 (omega arith) (omega arith) a.0 b.0
  one_refusal r q (inl a) (inr b) = absurd (b.1 a.1)
  one_refusal r q (inr a) (inl b) = absurd (a.1 b.1)
  one_refusal r q (inr a) (inr b) = same_number r q 9 (omega arith) (omega arith) a.0 b.0

  pub given_one : (a b : Result Outcome Refusal) → Given capacity last write size waits a → Given capacity last write size waits b → a ≡ b
  given_one (Ok Done) (Ok Done) f g = refl
  given_one (Ok Done) (Ok Wake) f g = absurd (differ g.0 f.0)
  given_one (Ok Done) (Ok Dropped) f g = absurd (omega (arith, f.1.1, g.1))
  given_one (Ok Done) (Err r) f g = absurd (not_refused r f.1 g)
  given_one (Ok Wake) (Ok Done) f g = absurd (differ f.0 g.0)
  given_one (Ok Wake) (Ok Wake) f g = refl
  given_one (Ok Wake) (Ok Dropped) f g = absurd (omega (arith, f.1.1, g.1))
  given_one (Ok Wake) (Err r) f g = absurd (not_refused r f.1 g)
  given_one (Ok Dropped) (Ok Done) f g = absurd (omega (arith, f.1, g.1.1))
  given_one (Ok Dropped) (Ok Wake) f g = absurd (omega (arith, f.1, g.1.1))
  given_one (Ok Dropped) (Ok Dropped) f g = refl
  given_one (Ok Dropped) (Err r) f g = absurd (not_dropped_refused r f g)
  given_one (Err r) (Ok Done) f g = absurd (not_refused r g.1 f)
  given_one (Err r) (Ok Wake) f g = absurd (not_refused r g.1 f)
  given_one (Err r) (Ok Dropped) f g = absurd (not_dropped_refused r g f)
  given_one (Err r) (Err q) f g = ap Err (one_refusal r q f g)

  -- so an outcome is given exactly if it is to be
  pub given_exactly : (answer : Result Outcome Refusal) → Given capacity last write size waits answer → (o : Result Outcome Refusal) → (answer ≡ o) ↔ Given capacity last write size waits o
  given_exactly answer g o = (
    λ e. subst (Given capacity last write size waits) e g,
    given_one answer o g,
  )
