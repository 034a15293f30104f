-- What is asked of a call, row by row: a row that holds settles it, and where it doesn't the rows behind it do.
use Prim.Native.Nat.{ℕ, zero, suc}
use mathlib.Core.Path.{◌≡◌, refl, sym, ◌∙◌}
use mathlib.Core.Bool.{Bool, true, false, cond, true≢false, false≢true}
use mathlib.Core.List.{List, [], ◌∷◌, ◌++◌, map}
use Rattle.table_rules.specs.Table.{first, Stops}
use Rattle.table_rules.specs.Refusals.{paper_name}
use Rattle.table_rules.specs.declared.Damage.{Damage}
use Rattle.table_rules.specs.declared.Refusal.{Refusal}
use Rattle.refusals.specs.Demand1.{no_damage, Asked}

module _ {A : Type 0} (a b : A) (rows : List (Bool × A)) where
  settled : (turn : ℕ) → Stops turn ((true, a) ∷ rows) b → a ≡ b
  settled zero h = h.1
  settled (suc turn) h = absurd (true≢false h.0)

  behind : (turn : ℕ) → Stops turn ((false, a) ∷ rows) b → (later : ℕ) × Stops later rows b
  behind zero h = absurd (false≢true h.0)
  behind (suc turn) h = (turn, h.1)

-- a call's outcomes: what each answers, the one of each refusal, and that what the call may change is in it as it came
pub record Outcomes (X A : Type 0) : Type 1 where
  pub answer : X → A
  pub refuse : Refusal → X
  pub as_came : X → Type 0
  pub keep : (r : Refusal) → as_came (refuse r)

module _ {X A : Type 0} (o : Outcomes X A) where
  abbrev pub refused : Refusal → A
  refused r = o.answer (o.refuse r)

  abbrev pub Fits : List (Bool × A) → X → Type 0
  Fits rows x = Asked refused no_damage (λ refusal. rows) (o.answer x) (o.as_came x)

  -- a row that holds
  settles : {a : A} {rows : List (Bool × A)} {x : X} → o.answer x ≡ a → ((r : Refusal) → o.answer x ≡ refused r → o.as_came x) → Fits ((true, a) ∷ rows) x
  settles {a} {rows} e keeps =
      record {
        exact = λ b. (λ q. (0, (refl, sym e ∙ q)), λ found. e ∙ settled a b rows found.0 found.1);
        kept = keeps;
      }

  pub refuses : (r : Refusal) {rows : List (Bool × A)} → Fits ((true, refused r) ∷ rows) (o.refuse r)
  refuses r = settles refl (λ q e. o.keep r)

  -- an answer that is no refusal
  abbrev pub Other : A → Type 0
  Other a = (r : Refusal) → a ≡ refused r → ⊥

  pub says : {a : A} {rows : List (Bool × A)} {x : X} → o.answer x ≡ a → Other a → Fits ((true, a) ∷ rows) x
  says e other = settles e (λ r q. absurd (other r (sym e ∙ q)))

  -- a row that doesn't hold
  pub past : {a : A} {rows : List (Bool × A)} {x : X} → Fits rows x → Fits ((false, a) ∷ rows) x
  past {a} {rows} fits =
      record {
        exact =
            λ b. (
              λ q. let found = (fits.exact b).0 q in (suc found.0, (refl, found.1)),
              λ found. (fits.exact b).1 (behind a b rows found.0 found.1),
            );
        kept = fits.kept;
      }

  -- one of two answers
  pub either : (test : Bool) {a b : A} {x : X} → o.answer x ≡ cond test a b → Other a → Other b → Fits ((test, a) ∷ (true, b) ∷ []) x
  either true e first second = says e first
  either false e first second = past (says e second)

  -- an answer among the refusals
  pub ask : (test : Bool) {a : A} {rows : List (Bool × A)} {x y : X} → o.answer x ≡ a → Other a → Fits rows y → Fits ((test, a) ∷ rows) (cond test x y)
  ask true e other fits = says e other
  ask false e other fits = past fits

  -- rows of refusals
  pub asks : (rs : List (Bool × Refusal)) {rows : List (Bool × A)} {x : X} → Fits rows x
      → Fits (map (λ (row : Bool × Refusal). (row.0, refused row.1)) rs ++ rows) (first rs o.refuse x)
  unfolding first
  asks [] fits = fits
  asks ((true, r) ∷ rs) fits = refuses r
  asks ((false, r) ∷ rs) fits = past (asks rs fits)

  pub asked : {damage : Damage} {table : (ℕ → A) → List (Bool × A)} {x : X} → Fits (table (λ n. refused (paper_name damage n))) x
      → Asked refused damage table (o.answer x) (o.as_came x)
  asked fits = record { exact = fits.exact; kept = fits.kept }
