-- The second demand, of the bytes (docs/STATEMENTS.md, 2): from tail to write lies the longest run of latest accepted events that fits, and nothing
-- else; nothing is dropped but what is above half the capacity; and last is made up of the events kept, dropped and overwritten.
-- A history is any list of calls, so what holds after it holds at every point of every history. What was accepted and what was dropped is read off
-- the calls' answers, what is kept off the bytes.
use Rattle.std.specs.Prelude.{ℕ, ◌+◌, ◌-◌, ◌/◌, ◌%◌, ◌^◌, ◌≤◌, ◌<◌, Result, Ok, Err}
use mathlib.Core.{Path.◌≡◌, Logic.◌⊎◌, Logic.◌≢◌, Logic.◌↔◌, Bool.Bool, Bool.true, Bool.false, List.List, List.[], List.◌∷◌, List.◌++◌, List.map}
use lib.{ListN.length, ListN.get_or}
use Rattle.table_rules.specs.{declared.Refusal.Refusal, Refusals.paper_number}
use Rattle.word_rules.specs.{Fields.put_all}
use Rattle.capacity_rules.specs.{Capacity.allowed}
use Rattle.page_rules.specs.{Page.page_of, Page.positions, Wake.futex_counter, Wake.wakes}
use Rattle.region_rules.specs.{Region.store_at}
use Rattle.event_rules.specs.{Run.joined}
use Rattle.look_rules.specs.{Live.live}
use Rattle.create_rules.specs.{Create.created, Create.after_create}
use Rattle.emit_rules.specs.{declared.Outcome.Outcome}
use Rattle.emit_rules.specs.declared.Outcome.TheVariants.{Done, Wake, Dropped}
use Rattle.inspect_rules.specs.{Inspect.inspected}
use Rattle.writer_rules.specs.{Writer.zeros}
use Rattle.run_rules.specs.{Runs.last_of, Runs.first_of, Runs.total, Runs.LongestRun}
use Rattle.history.specs.{Ring.sequence_of, Ring.Numbered, Ring.Ring, Ring.fresh, Ring.write, Calls.uses, Calls.used, Calls.dropped_of}
use Rattle.promise.specs.Bytes.{Event, size, taken, encode, State, consumed, Turn, uncalled, Emission, operation}
use Rattle.promise.specs.Bytes.{Made, made_by, after_by, made, after, answer_of, call_of, accepted_of, raises, outcomes_of}
use Rattle.promise.specs.Holds.{Holds}

-- numbers and positions are left, and the event isn't above half the capacity
abbrev pub Acceptable : ℕ → ℕ → ℕ → ℕ → Type 0
Acceptable capacity last write size = (last ≢ 2 ^ 64 - 1) × (size ≤ capacity / 2) × (write + size ≤ 2 ^ 62)

-- When an outcome is given, by the capacity, the last sequence and the write position before the call, the event's size, and whether the consumer
-- waits. No refusal is given but 8 and 9, and neither before the sequences or the positions are used up.
abbrev pub Given : ℕ → ℕ → ℕ → ℕ → Bool → Result Outcome Refusal → Type 0
Given capacity last write size waits (Ok Done) = (waits ≡ false) × Acceptable capacity last write size
Given capacity last write size waits (Ok Wake) = (waits ≡ true) × Acceptable capacity last write size
Given capacity last write size waits (Ok Dropped) = (last ≢ 2 ^ 64 - 1) × (capacity / 2 < size)
Given capacity last write size waits (Err r) =
    ((paper_number r ≡ 8) × (last ≡ 2 ^ 64 - 1))
    ⊎ ((paper_number r ≡ 9) × (last ≢ 2 ^ 64 - 1) × (size ≤ capacity / 2) × (2 ^ 62 < write + size))

-- the consumer waits: need_wake is the first byte of its page
abbrev pub waiting : Turn → Bool
waiting t = wakes (get_or t.page 0 0)

-- each call has an outcome exactly if it is to be given, and uses the next sequence unless it was refused
abbrev pub Exact : ℕ → ℕ → ℕ → List Made → Type 0
Exact capacity last write [] = Unit {0}
Exact capacity last write (m ∷ ms) =
    ((o : Result Outcome Refusal) → (m.answer.outcome ≡ o) ↔ Given capacity last write (size m.turn.event) (waiting m.turn) o)
    × (m.answer.writer.last ≡ last + uses (answer_of m.answer.outcome))
    × Exact capacity m.answer.writer.last (write + taken (accepted_of (m ∷ []))) ms

-- no call was refused
abbrev pub NoneRefused : List Made → Type 0
NoneRefused [] = Unit {0}
NoneRefused (m ∷ ms) = ((r : Refusal) → m.answer.outcome ≢ Err r) × NoneRefused ms

-- the ring without bytes that these events, the page and the record make up
abbrev pub shown : List (Numbered Event) → State → Ring Event
shown kept s = record {
  kept = kept;
  tail = (page_of s.ring).tail_pos;
  last = s.writer.last;
  dropped = s.writer.dropped;
  overwritten = s.writer.overwritten;
}

-- of the calls made from a beginning, and of the bytes and the record after them; `without` is the ring as it would be without the calls
pub record Promise (cpu capacity : ℕ) (beginning : Ring Event) (without : List ℕ) (calls : List Made) (end : State) : Type 0 where
  pub kept : List (Numbered Event)
  -- 2.7: the ring's events, header and payload of each, under the sequence that its call gave
  pub bytes : live end.ring (page_of end.ring) ≡ joined (map (encode cpu) kept)
  -- 3.5: of all that was accepted, an event's size being the number of its bytes
  pub longest : LongestRun (λ (x : Numbered Event). length (encode cpu x)) capacity (beginning.kept ++ accepted_of calls) kept
  -- 6.4: a call drops its event for its size alone; and none is refused but by 8 and 9
  pub exact : Exact capacity beginning.last (write size beginning) calls
  -- inspection never refuses: it finds the events kept
  pub inspection : inspected end.ring ≡ Ok (record { count = length kept; first = first_of sequence_of kept; last = last_of sequence_of 0 kept })
  -- last is made up of the events kept, dropped and overwritten: kept is inspection's count, dropped is from the calls,
  -- overwritten is the record's
  pub counts : end.writer.last ≡ length kept + (beginning.dropped + dropped_of (map call_of calls)) + end.writer.overwritten
  -- each call that isn't refused uses one number
  pub last : end.writer.last ≡ beginning.last + used (map call_of calls)
  -- the record's dropped is the calls' too
  pub dropped : end.writer.dropped ≡ beginning.dropped + dropped_of (map call_of calls)
  -- positions count the bytes of the accepted events
  pub written : (page_of end.ring).write_pos ≡ write size beginning + taken (accepted_of calls)
  -- every byte of the ring is as it would be without the calls, but for three things: in the data the accepted events stand one behind the other from
  -- the first's position on, the later over the older; the two positions; and futex_counter, up by one for each WAKE, from 2^32 - 1 to 0
  pub ring : end.ring ≡ put_all (store_at without capacity (write size beginning) (joined (map (encode cpu) (accepted_of calls))))
      (positions (page_of end.ring).write_pos (page_of end.ring).tail_pos
      ++ (record { offset = 128; size = 4; content = (futex_counter without + total raises (outcomes_of calls)) % 2 ^ 32 } ∷ []))
  -- refusals 1 to 6 don't meet the ring, and the promise can be given again from here
  pub holds : Holds cpu capacity end.ring end.writer (shown kept end)

-- from any beginning
abbrev pub Demand2 : Type 0
Demand2 =
    (cpu capacity : ℕ) (beginning : Ring Event) (s : State) → Holds cpu capacity s.ring s.writer beginning → (turns : List Turn) →
    Promise cpu capacity beginning (uncalled s.ring turns) (made s turns) (after s turns)

-- what creation leaves, and the record that goes with it
abbrev pub created_state : ℕ → List ℕ → State
created_state cpu buffer = record { ring = after_create cpu buffer; writer = zeros }

-- from a fresh ring, the first case: any cpu_id, any allowed capacity, any buffer of its length. Nothing is kept in `fresh`, and its numbers are 0
abbrev pub FreshBy2 : Emission → Type 0
FreshBy2 make =
    (cpu capacity : ℕ) → cpu < 2 ^ 16 → allowed capacity ≡ true → (buffer : List ℕ) → length buffer ≡ 8192 + capacity → (turns : List Turn) →
    (created buffer ≡ Ok tt)
    × Promise cpu capacity fresh (uncalled (after_create cpu buffer) turns) (made_by make (created_state cpu buffer) turns)
    (after_by make (created_state cpu buffer) turns)

abbrev pub Fresh2 : Type 0
Fresh2 = FreshBy2 operation

-- what the consumer writes after the last call changes its own page and nothing else
abbrev pub Undisturbed2 : Type 0
Undisturbed2 =
    (cpu capacity : ℕ) (beginning : Ring Event) (without : List ℕ) (calls : List Made) (end : State) →
    Promise cpu capacity beginning without calls end → (page : List ℕ) → length page ≡ 4096 →
    Promise cpu capacity beginning (consumed without page) calls (record { ring = consumed end.ring page; writer = end.writer })

-- neither 8 nor 9 comes early: while numbers and positions suffice for all events of a history, no call is refused
abbrev pub Unrefused2 : Type 0
Unrefused2 =
    (cpu capacity : ℕ) (beginning : Ring Event) (s : State) → Holds cpu capacity s.ring s.writer beginning → (turns : List Turn) →
    beginning.last + length turns < 2 ^ 64 → write size beginning + total (λ (t : Turn). size t.event) turns ≤ 2 ^ 62 →
    NoneRefused (made s turns)

-- the same answers, the same record, and the same ring, byte for byte
abbrev pub Alike : List Made → State → List Made → State → Type 0
Alike calls one others other = (outcomes_of calls ≡ outcomes_of others) × (one ≡ other)

-- whatever meets the demand gives what the operation does, on every fresh ring and after every history; on rings that none reaches it may differ
abbrev pub Only2 : Type 0
Only2 =
    (make : Emission) → FreshBy2 make →
    (cpu capacity : ℕ) → cpu < 2 ^ 16 → allowed capacity ≡ true → (buffer : List ℕ) → length buffer ≡ 8192 + capacity → (turns : List Turn) →
    Alike (made_by make (created_state cpu buffer) turns) (after_by make (created_state cpu buffer) turns)
    (made (created_state cpu buffer) turns) (after (created_state cpu buffer) turns)
