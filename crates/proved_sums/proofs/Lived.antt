-- The rings of the sums hold what the ring without bytes comes to: a created one begins so (`created_holds`), and call by call the two go alike (`same_calls`).
use Prim.Native.Nat.{ℕ, ◌+◌}
use native.Mathlib.Omega.{arith}
use mathlib.Core.Path.{◌≡◌, ap, ◌∙◌}
use mathlib.Core.Bool.{true}
use mathlib.Core.List.{List, map}
use lib.ListN.{length}
use Rattle.word_rules.specs.Number.{number}
use Rattle.capacity_rules.specs.Capacity.{allowed}
use Rattle.page_rules.specs.Page.{page_of}
use Rattle.page_rules.proofs.Fresh.{blank_generation}
use Rattle.create_rules.specs.Create.{after_create}
use Rattle.writer_rules.specs.Writer.{zeros}
use Rattle.history.specs.Ring.{Ring, fresh, write}
use Rattle.history.proofs.Ideal.{given, emit}
use Rattle.history.specs.Calls.{Call}
use Rattle.history.proofs.Ideal.{calls}
use Rattle.history.proofs.Ideal.{after as afterCalls}
use Rattle.promise.specs.Bytes.{Event, size, Turn}
use Rattle.promise.specs.Holds.{Holds}
use Rattle.promise.specs.Demand2.{created_state}
use Rattle.promise.proofs.Created.{created_blank, created_holds}
use Rattle.promise.proofs.Demand2.{same_calls}
use Rattle.proved_sums.specs.Lives.{turns, lived, answers, Shows}
use Rattle.proved_sums.specs.Sums.{counted}
use Rattle.proved_sums.proofs.Shown.{numbers, Counting, shows}
use Rattle.promise.proofs.Generation.{generation_stays}

module _ (turn : ℕ → Turn) (buffer : ℕ → List ℕ) (sized : (capacity : ℕ) → length (buffer capacity) ≡ 8192 + capacity) where
  abbrev pub events : List ℕ → List Event
  events lengths = map (λ (t : Turn). t.event) (turns turn 1 lengths)

  -- what the lengths come to without bytes
  abbrev pub reached : ℕ → List ℕ → Ring Event
  reached capacity lengths = afterCalls (emit size capacity) fresh (events lengths)

  module _ (capacity : ℕ) (fit : allowed capacity ≡ true) where
    pub begins : Holds 3 capacity (after_create 3 (buffer capacity)) zeros fresh
    begins = created_holds 3 capacity (omega arith) fit (buffer capacity) (sized capacity)

    pub first_generation : (page_of (after_create 3 (buffer capacity))).generation ≡ 1
    unfolding page_of
    first_generation =
        ap (λ (s : List ℕ). number s 32 8) (created_blank 3 capacity (omega arith) fit (buffer capacity) (sized capacity))
        ∙ blank_generation 3 capacity 1 (omega arith) fit (omega arith) (omega arith)

    pub lived_holds : (lengths : List ℕ)
        → Holds 3 capacity (lived turn buffer capacity lengths).ring (lived turn buffer capacity lengths).writer (reached capacity lengths)
    lived_holds lengths = (same_calls 3 capacity (turns turn 1 lengths) (created_state 3 (buffer capacity)) fresh begins).1

    -- a line of the table, by computing without bytes
    pub lived_shows : (lengths : List ℕ) {tail far last dropped overwritten : ℕ} {kept : List ℕ} → (reached capacity lengths).tail ≡ tail
        → write size (reached capacity lengths) ≡ far → numbers (reached capacity lengths).kept ≡ kept
        → Counting (reached capacity lengths) last dropped overwritten
        → Shows (lived turn buffer capacity lengths) capacity tail far kept (counted last dropped overwritten)
    lived_shows lengths = shows capacity (lived turn buffer capacity lengths) (reached capacity lengths) (lived_holds lengths)

    pub lived_answers : (lengths : List ℕ)
        → answers turn buffer capacity lengths ≡ map (λ (k : Call Event). k.answer) (calls given (emit size capacity) fresh (events lengths))
    lived_answers lengths =
        ap (map (λ (k : Call Event). k.answer)) (same_calls 3 capacity (turns turn 1 lengths) (created_state 3 (buffer capacity)) fresh begins).0

    pub lived_generation : (lengths : List ℕ) → (page_of (lived turn buffer capacity lengths).ring).generation ≡ 1
    unfolding page_of
    lived_generation lengths =
        generation_stays 3 capacity (created_state 3 (buffer capacity)) fresh begins (turns turn 1 lengths) ∙ first_generation
