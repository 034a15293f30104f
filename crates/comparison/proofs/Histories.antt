-- Two rings through a history: step by step they follow rings without bytes, and whatever is kept by these is said at each emptying.
use Prim.Native.Nat.{ℕ}
use mathlib.Core.Path.{refl, subst}
use mathlib.Core.Logic.{◌≢◌}
use mathlib.Core.List.{List, [], ◌∷◌, map}
use Rattle.std.specs.Prelude.{Result, Ok, Err}
use Rattle.table_rules.specs.declared.Refusal.{Refusal}
use Rattle.emit_rules.specs.declared.Outcome.{Outcome}
use Rattle.emit_rules.specs.declared.Outcome.TheVariants.{Done, Wake, Dropped}
use Rattle.reader_rules.specs.Read.{read_out}
use Rattle.reader_rules.specs.declared.Reader.{Reader}
use Rattle.history.specs.Ring.{Answer}
use Rattle.history.proofs.Ideal.{emit}
use Rattle.history.proofs.IdealServed.{Ideal, ideal_emission, ideal_emptying}
use Rattle.history.proofs.Ideal3.{NotRefused}
use Rattle.history.proofs.Served.{Attended, done}
use Rattle.promise.specs.Bytes.{Event, size, encode, made_by, made, Turn, answer_of}
use Rattle.promise.specs.Demand2.{NoneRefused}
use Rattle.promise.proofs.Demand2.{turn_step}
use Rattle.promise.proofs.Reading.{record_of}
use Rattle.comparison.specs.Emptying.{Watched}
use Rattle.comparison.specs.Comparison.{turn, Step, Emission, Emptying, NoLess}
use Rattle.comparison.proofs.NewlyAttached.{positive}
use Rattle.comparison.proofs.Following.{Follows, follows_emission, emptied, follows_emptying}

-- an outcome that isn't a refusal
not_refused : (o : Result Outcome Refusal) → ((r : Refusal) → o ≢ Err r) → NotRefused (answer_of o)
not_refused (Ok Done) h = tt
not_refused (Ok Wake) h = tt
not_refused (Ok Dropped) h = tt
not_refused (Err r) h = absurd (h r refl)

taken : (cpu capacity : ℕ) (b : Watched) (w : Ideal Event) (t : Turn) → Follows cpu capacity b w → NoneRefused (made b.state (t ∷ []))
    → NotRefused (emit size capacity w.ring t.event).answer
unfolding made_by
taken cpu capacity b w t i never =
    subst (λ (a : Answer). NotRefused a) (turn_step cpu capacity b.state w.ring t i.holds).answer (not_refused _ never.0)

-- `Kept` is what holds of the rings without bytes after each step
module _ (cpu c C : ℕ) (Small : ℕ → Event → Type 0) (Says : List (List ℕ) → List (List ℕ) → Reader → Reader → Type 0)
    (Kept : Ideal Event → Ideal Event → Type 0)
    (small-attended : (w W : Ideal Event) → Kept w W → Attended size c w)
    (large-attended : (w W : Ideal Event) → Kept w W → Attended size C W)
    (emits : (w W : Ideal Event) (e : Event) → Small c e
    → NotRefused (emit size c w.ring e).answer → NotRefused (emit size C W.ring e).answer
    → Kept w W → Kept (ideal_emission size c w e) (ideal_emission size C W e))
    (empties : (w W : Ideal Event) → Kept w W → Kept (ideal_emptying size w) (ideal_emptying size W))
    (says : (w W : Ideal Event) → Kept w W → (one other : ℕ)
    → Says (map (encode cpu) (done size positive w).out) (map (encode cpu) (done size positive W).out)
    (record_of one (done size positive w).reader) (record_of other (done size positive W).reader)) where
  pub no_less : (steps : List Step) (small large : Watched) (w W : Ideal Event) → Follows cpu c small w → Follows cpu C large W → Kept w W
      → NoLess read_out Small Says cpu c C small large steps
  no_less [] small large w W f F kept = tt
  no_less (Emission e ofSmall ofLarge ∷ steps) small large w W f F kept =
      λ fair smaller larger.
      no_less steps _ _ (ideal_emission size c w e) (ideal_emission size C W e)
      (follows_emission cpu c small w (turn e ofSmall) f) (follows_emission cpu C large W (turn e ofLarge) F)
      (emits w W e fair (taken cpu c small w (turn e ofSmall) f smaller) (taken cpu C large W (turn e ofLarge) F larger) kept)
  no_less (Emptying ∷ steps) small large w W f F kept =
      let a = small-attended w W kept in
      let A = large-attended w W kept in (
        emptied cpu c small w f a,
        emptied cpu C large W F A,
        says w W kept _ _,
        no_less steps _ _ (ideal_emptying size w) (ideal_emptying size W) (follows_emptying cpu c small w f a) (follows_emptying cpu C large W F A)
            (empties w W kept),
      )
