-- RULES 7.17: what is promised of a reader that copies and confirms beside a live writer, on a fresh ring with one writer, attached to it at any moment.
-- What was accepted is read off the emissions' answers, what is in the ring off its bytes, what was copied off the output buffers.
use Rattle.std.specs.Prelude.{ℕ, ◌+◌, ◌^◌, ◌≤◌, ◌<◌, Ok, Err}
use mathlib.Core.{Path.◌≡◌, Logic.◌≢◌, Logic.◌↔◌, Bool.true, List.List, List.[], List.◌∷◌, List.◌++◌, List.map}
use lib.{ListN.length, ListN.take, ListN.drop}
use Rattle.table_rules.specs.{declared.Refusal.Refusal}
use Rattle.run_rules.specs.{Runs.Rising, Runs.last_of, Runs.LongestRun}
use Rattle.capacity_rules.specs.{Capacity.allowed}
use Rattle.page_rules.specs.{Page.page_of}
use Rattle.event_rules.specs.{Run.joined}
use Rattle.look_rules.specs.{Live.live}
use Rattle.reader_rules.specs.{declared.Reader.Reader}
use Rattle.slip_rules.specs.{Copy.copy_out, declared.Slip.Slip}
use Rattle.slip_rules.specs.declared.Copying.TheVariants.{Event as copiedEvent}
use Rattle.slip_rules.specs.declared.Confirming.TheVariants.{Again}
use Rattle.history.specs.{Ring.sequence_of, Ring.Numbered}
use Rattle.promise.specs.{Bytes.Event, Bytes.size, Bytes.encode, Bytes.State, Bytes.consumed, Bytes.Turn, Bytes.Made, Bytes.made, Bytes.after, Bytes.accepted_of}
use Rattle.comparison.specs.{Emptying.Consumer}
use Rattle.beside.specs.Life.{Life, Act, copy_now, confirm_now, through_acts, attached_after}
use Rattle.reader_rules.specs.declared.Answered.{Answered}
use Rattle.slip_rules.specs.declared.Confirming.{Confirming}

-- x is one of some events
pub record Among {A : Type 0} (x : A) (all : List A) : Type 0 where
  pub older : List A
  pub younger : List A
  pub split : all ≡ older ++ (x ∷ younger)

-- each of some events is
abbrev pub EachAmong : {A : Type 0} → List A → List A → Type 0
EachAmong [] all = Unit {0}
EachAmong (x ∷ xs) all = Among x all × EachAmong xs all

-- the events in a ring: what its bytes hold, and of all that was accepted the longest run of latest ones that fits
pub record InRing (cpu capacity : ℕ) (calls : List Made) (s : List ℕ) (kept : List (Numbered Event)) : Type 0 where
  pub bytes : live s (page_of s) ≡ joined (map (encode cpu) kept)
  pub longest : LongestRun (λ (x : Numbered Event). length (encode cpu x)) capacity (accepted_of calls) kept

-- the next copy, into any buffer that is long enough, is of the oldest event in the ring, and the record stays
pub record AtOldest (cpu : ℕ) (s : List ℕ) (kept : List (Numbered Event)) (reader : Reader) : Type 0 where
  pub oldest : Numbered Event
  pub younger : List (Numbered Event)
  pub first : kept ≡ oldest ∷ younger
  pub copies : (c : Consumer) (out : List ℕ) → size oldest.event ≤ length out →
      copy_out (consumed s c.page) reader out ≡ record {
        copied = record {
          answer = (Ok (copiedEvent (record {
            position = (page_of s).tail_pos;
            size = size oldest.event;
            sequence = oldest.sequence;
            tail_seen = (page_of s).tail_pos;
          })));
          reader = reader;
        };
        out = encode cpu oldest ++ drop (size oldest.event) out;
      }

-- An event was copied, with this slip and this front of the output buffer; `calls` are all emissions until its slip was confirmed, `s` is what there was
-- then, and `a` what confirming left.
pub record Settles (cpu capacity : ℕ) (calls : List Made) (s : State) (slip : Slip) (front : List ℕ) (a : Answered Confirming) : Type 0 where
  -- 1. the bytes are those of the event that was accepted under the slip's sequence
  pub event : Numbered Event
  pub accepted : Among event (accepted_of calls)
  pub numbered : event.sequence ≡ slip.sequence
  pub alone : (other : Numbered Event) → Among other (accepted_of calls) → other.sequence ≡ slip.sequence → other ≡ event
  pub bytes : front ≡ encode cpu event
  -- 2. AGAIN exactly if it has gone from the ring, that is, if its position is below the tail; and no refusal
  pub kept : List (Numbered Event)
  pub ring : InRing cpu capacity calls s.ring kept
  pub answers : (r : Refusal) → a.answer ≢ Err r
  pub again : (a.answer ≡ Ok Again) ↔ (slip.position < (page_of s.ring).tail_pos)
  pub gone : (a.answer ≡ Ok Again) ↔ (Among event kept → ⊥)
  -- 3. after AGAIN the reader starts over: whatever is emitted further
  pub over : a.answer ≡ Ok Again → (later : List Turn) →
      (still : List (Numbered Event))
      × InRing cpu capacity (calls ++ made s later) (after s later).ring still
      × AtOldest cpu (after s later).ring still a.reader

-- after any acts a copy answers with an event, any emissions follow, and its slip is confirmed with the record that the copy handed back
abbrev pub Beside : Type 0
Beside =
    (cpu capacity : ℕ) → cpu < 2 ^ 16 → allowed capacity ≡ true → (buffer : List ℕ) → length buffer ≡ 8192 + capacity →
    (turns : List Turn) (first : Consumer) (any : Reader) (acts : List Act) →
    let l = through_acts (attached_after cpu buffer turns first any) acts in
    (copier : Consumer) (out : List ℕ) (slip : Slip) → (copy_now l copier out).copied.answer ≡ Ok (copiedEvent slip) →
    (further : List Turn) (confirmer : Consumer) →
    let a = copy_now l copier out in
    let s = after l.state further in
    Settles cpu capacity (l.calls ++ made l.state further) s slip (take slip.size a.out) (confirm_now s confirmer a.copied.reader slip)

-- what was confirmed by such a reader: each event exactly as it was emitted, none twice, since the sequences rise; and the record counts them
pub record InOrder (cpu : ℕ) (l : Life) : Type 0 where
  pub handed : List (Numbered Event)
  pub bytes : l.events ≡ map (encode cpu) handed
  pub rising : Rising sequence_of 0 handed
  pub accepted : EachAmong handed (accepted_of l.calls)
  pub counted : l.reader.handed ≡ length handed
  pub last : l.reader.last ≡ last_of sequence_of 0 handed

abbrev pub HandedInOrder : Type 0
HandedInOrder =
    (cpu capacity : ℕ) → cpu < 2 ^ 16 → allowed capacity ≡ true → (buffer : List ℕ) → length buffer ≡ 8192 + capacity →
    (turns : List Turn) (first : Consumer) (any : Reader) (acts : List Act) →
    InOrder cpu (through_acts (attached_after cpu buffer turns first any) acts)
