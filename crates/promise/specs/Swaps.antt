-- RULES 7.12: what a swap promises, of any ring that holds together with its record. A created ring does, so does one after any calls (`Promise` ends
-- in `holds`) and one that a swap has made (`begins`): so this is said of every swap in every history of calls and swaps on the newest ring.
use Rattle.std.specs.Prelude.{ℕ, ◌+◌, ◌-◌, ◌%◌, ◌^◌, Err}
use mathlib.Core.{Path.◌≡◌, Logic.◌≢◌, Bool.cond, List.List, List.[], List.◌∷◌}
use lib.{ListN.length}
use Rattle.run_rules.specs.{Runs.LongestRun}
use Rattle.table_rules.specs.{Table.first, declared.Refusal.Refusal, declared.Refusal.TheVariants.Size, declared.Refusal.TheVariants.Generation}
use Rattle.page_rules.specs.{Page.page_of, Wake.futex_counter, Wake.need_wake, Wake.wakes}
use Rattle.create_rules.specs.{Create.wrong_size}
use Rattle.swap_rules.specs.{Swap.AfterSwap, Swap.last_generation, Swap.exchanging, Swap.exchange}
use Rattle.history.specs.{Ring.Numbered, Ring.Ring}
use Rattle.promise.specs.{Bytes.Event, Bytes.encode, Bytes.State, Bytes.Turn, Bytes.uncalled, Bytes.made, Bytes.after, Holds.Holds, Demand2.Promise}

-- a swap into the buffer t, and the newest ring after it with the record handed back
abbrev pub swap : State → List ℕ → AfterSwap
swap s t = exchange s.ring t s.writer

abbrev pub swapped : State → List ℕ → State
swapped s t = record { ring = (swap s t).new; writer = (swap s t).answer.writer }

-- 7.11: these events of a ring, from position 0 on; the others count as overwritten
abbrev pub keeping : List (Numbered Event) → Ring Event → Ring Event
keeping kept ring = record {
  kept = kept;
  tail = 0;
  last = ring.last;
  dropped = ring.dropped;
  overwritten = ring.overwritten + (length ring.kept - length kept);
}

-- of a swap that isn't refused, from a ring of capacity `before`
pub record SwapPromise (cpu before : ℕ) (ring : Ring Event) (s : State) (t : List ℕ) : Type 0 where
  -- 7.9: what the new ring gets of the old one's events
  pub kept : List (Numbered Event)
  pub longest : LongestRun (λ (x : Numbered Event). length (encode cpu x)) (length t - 8192) ring.kept kept
  -- the new ring is a beginning like any other, so the second demand goes on from it
  pub begins : Holds cpu (length t - 8192) (swap s t).new (swap s t).answer.writer (keeping kept ring)
  pub goes_on : (turns : List Turn)
      → Promise cpu (length t - 8192) (keeping kept ring) (uncalled (swapped s t).ring turns) (made (swapped s t) turns) (after (swapped s t) turns)
  -- 7.9, 7.10: both rings show the next generation, and who waits at the old one is told
  pub new_generation : (page_of (swap s t).new).generation ≡ (page_of s.ring).generation + 1
  pub old_generation : (page_of (swap s t).old).generation ≡ (page_of s.ring).generation + 1
  pub counter : futex_counter (swap s t).old ≡ cond (wakes (need_wake s.ring)) ((futex_counter s.ring + 1) % 2 ^ 32) (futex_counter s.ring)
  -- 7.12: the old ring holds what it held
  pub frozen : Holds cpu before (swap s t).old s.writer ring

-- no refusal is left but 16 and 15, and WAKE is answered exactly if the old ring's consumer waits
abbrev pub Swaps : Type 0
Swaps =
    (cpu before : ℕ) (ring : Ring Event) (s : State) → Holds cpu before s.ring s.writer ring → (t : List ℕ) →
    ((swap s t).answer.outcome
    ≡ first ((wrong_size t, Size) ∷ (last_generation (page_of s.ring), Generation) ∷ []) Err (exchanging (wakes (need_wake s.ring))))
    × (((r : Refusal) → (swap s t).answer.outcome ≢ Err r) → SwapPromise cpu before ring s t)
