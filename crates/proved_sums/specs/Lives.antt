-- The rings that the sums tell of: what was called on them, and what their bytes show.
use Rattle.std.specs.Prelude.{ℕ, zero, suc, Ok}
use mathlib.Core.{Path.◌≡◌, List.List, List.[], List.◌∷◌, List.map}
use lib.{ListN.length, ListN.get_or}
use Rattle.run_rules.specs.{Runs.last_of, Runs.first_of}
use Rattle.page_rules.specs.{Page.page_of}
use Rattle.event_rules.specs.{Event.sequence}
use Rattle.writer_rules.specs.{declared.Writer.Writer}
use Rattle.inspect_rules.specs.{Inspect.walked, Inspect.inspected, declared.Summary.Summary}
use Rattle.history.specs.{Ring.Answer, Calls.Call}
use Rattle.promise.specs.{Bytes.Event, Bytes.State, Bytes.Turn, Bytes.made, Bytes.after, Bytes.call_of, Demand2.created_state}

-- n bytes of a list from a place on, zeros behind its end
unfoldable pub cut : ℕ → ℕ → List ℕ → List ℕ
cut at zero l = []
cut at (suc n) l = get_or l at 0 ∷ cut (suc at) n l

-- an event whose payload is cut to n bytes
abbrev pub paid : ℕ → Event → Event
paid n e = record {
  timestamp = e.timestamp;
  type = e.type;
  class = e.class;
  payload = cut 0 n e.payload;
  timestamp_fits = e.timestamp_fits;
  type_fits = e.type_fits;
  class_fits = e.class_fits;
}

-- The sums give payload lengths alone. All else of the k-th call on a ring is `given k`: the event's label and its payload's bytes,
-- and what the consumer wrote before the call. A buffer to be made a ring holds anything, too.
module _ (given : ℕ → Turn) where
  -- the k-th call and those after it
  abbrev pub turns : ℕ → List ℕ → List Turn
  turns k [] = []
  turns k (n ∷ ns) = record { page = (given k).page; whole = (given k).whole; event = paid n (given k).event } ∷ turns (suc k) ns

  module _ (buffer : ℕ → List ℕ) where
    -- cpu 3, a fresh ring of this capacity, and then a call for each payload length
    abbrev pub lived : ℕ → List ℕ → State
    lived capacity lengths = after (created_state 3 (buffer capacity)) (turns 1 lengths)

    abbrev pub answers : ℕ → List ℕ → List Answer
    answers capacity lengths = map (λ (k : Call Event). k.answer) (map call_of (made (created_state 3 (buffer capacity)) (turns 1 lengths)))

-- what inspection answers of events with these sequences
abbrev pub summary_of : List ℕ → Summary
summary_of sequences = record { count = length sequences; first = first_of (λ (n : ℕ). n) sequences; last = last_of (λ (n : ℕ). n) 0 sequences }

-- by the ring's bytes and the writer's record; cpu 3 in all sums
pub record Shows (s : State) (capacity tail write : ℕ) (kept : List ℕ) (counts : Writer → Type 0) : Type 0 where
  pub cpu_is : (page_of s.ring).cpu_id ≡ 3
  pub capacity_is : (page_of s.ring).capacity ≡ capacity
  pub tail_is : (page_of s.ring).tail_pos ≡ tail
  pub write_is : (page_of s.ring).write_pos ≡ write
  pub inspection : inspected s.ring ≡ Ok (summary_of kept)
  -- the sequences of the events that inspection passes
  pub kept_are : map sequence (walked s.ring (page_of s.ring)) ≡ kept
  -- what the record counts
  pub counts_are : counts s.writer
