-- One ring with its writer and its one reader. Emptying is reading until EMPTY, each read with the record that the read before handed back.
use Rattle.std.specs.Prelude.{ℕ, ◌+◌, ◌≤◌, Ok}
use mathlib.Core.{Path.◌≡◌, List.List, List.[], List.◌∷◌, List.◌++◌, List.map}
use lib.{ListN.length, ListN.drop}
use Rattle.page_rules.specs.{Page.page_of}
use Rattle.create_rules.specs.{Create.after_create}
use Rattle.writer_rules.specs.{declared.Writer.Writer}
use Rattle.reader_rules.specs.{Reader.reader_with, Attach.attached, Read.AfterRead, Read.read_out}
use Rattle.reader_rules.specs.{declared.Reader.Reader}
use Rattle.reader_rules.specs.declared.Reading.TheVariants.{Empty as readingEmpty, Event as readingEvent}
use Rattle.run_rules.specs.{Runs.last_of, Runs.LongestRun}
use Rattle.history.specs.{Ring.sequence_of, Ring.Numbered, Ring.Ring}
use Rattle.promise.specs.{Bytes.Event, Bytes.encode, Bytes.State, Bytes.consumed, Bytes.Turn, Bytes.made, Bytes.after, Bytes.accepted_of, Holds.Holds, Demand2.created_state}
use Rattle.reader_rules.specs.declared.Answered.{Answered}

-- what a ring's consumer wrote into bytes 4096 to 8191
pub record Consumer : Type 0 where
  pub page : List ℕ
  pub whole : length page ≡ 4096

-- whatever reads: of the ring's bytes, the record and the output buffer it gives the answer, the record handed back and the buffer's bytes left
abbrev pub Read : Type 0
Read = List ℕ → Reader → List ℕ → AfterRead

-- with any output buffer that holds it: the event's bytes stand at the front, the answer gives their number, the rest of the buffer stays
abbrev pub Hands : Read → List ℕ → Reader → List ℕ → Reader → Type 0
Hands read s reader event next =
    (consumer : Consumer) (out : List ℕ) → length event ≤ length out →
    read (consumed s consumer.page) reader out ≡ record {
      answered = record { answer = Ok (readingEvent (length event)); reader = next };
      out = event ++ drop (length event) out;
    }

-- EMPTY: neither MOVED nor a refusal, and nothing written
abbrev pub Ends : Read → List ℕ → Reader → Reader → Type 0
Ends read s reader end =
    (consumer : Consumer) (out : List ℕ) →
    read (consumed s consumer.page) reader out ≡ record { answered = record { answer = Ok readingEmpty; reader = end }; out = out }

-- reading until EMPTY hands out these events' bytes, one event at each read, and leaves the reader's record as `end`
abbrev pub Empties : Read → List ℕ → Reader → List (List ℕ) → Reader → Type 0
Empties read s reader [] end = Ends read s reader end
Empties read s reader (event ∷ events) end = (next : Reader) × Hands read s reader event next × Empties read s next events end

-- whatever its reads are lent, an emptying can end in no other way
abbrev pub OneEnd : Type 0
OneEnd =
    (read : Read) (s : List ℕ) (reader : Reader) (events others : List (List ℕ)) (one other : Reader) →
    Empties read s reader events one → Empties read s reader others other →
    (events ≡ others) × (one ≡ other)

abbrev pub Attach : Type 0
Attach = List ℕ → Reader → Answered (Unit {0})

-- a reader newly attached to any ring that holds together is handed exactly the events kept until EMPTY; `any` is what attaching was given
abbrev pub NewlyAttachedBy : Attach → Type 0
NewlyAttachedBy attach =
    (cpu capacity : ℕ) (s : List ℕ) (w : Writer) (ring : Ring Event) → Holds cpu capacity s w ring → (any : Reader) →
    ((attach s any).answer ≡ Ok tt)
    × Empties read_out s (attach s any).reader (map (encode cpu) ring.kept)
    (reader_with (page_of s).write_pos (last_of sequence_of 0 ring.kept) (length ring.kept) (page_of s).generation)

abbrev pub NewlyAttached : Type 0
NewlyAttached = NewlyAttachedBy attached

-- the ring's bytes and the writer's record, the reader's record, and the events accepted since the last emptying, told from the answers
pub record Watched : Type 0 where
  pub state : State
  pub reader : Reader
  pub since : List (Numbered Event)

-- a fresh ring with the zero record of its writer, and a reader attached before the first call
abbrev pub started : ℕ → List ℕ → Reader → Watched
started cpu buffer any = record { state = created_state cpu buffer; reader = (attached (after_create cpu buffer) any).reader; since = [] }

abbrev pub watched_emission : Watched → Turn → Watched
watched_emission w t = record { state = after w.state (t ∷ []); reader = w.reader; since = w.since ++ accepted_of (made w.state (t ∷ [])) }

-- an emptying of the ring as it stands: a read that always answers EMPTY breaks `longest`
pub record Emptied (read : Read) (cpu capacity : ℕ) (w : Watched) : Type 0 where
  -- what it hands out, in order
  pub events : List (Numbered Event)
  pub end : Reader
  -- it ends, after as many reads as events and one that answers EMPTY
  pub ended : Empties read w.state.ring w.reader (map (encode cpu) events) end
  -- of the events accepted since the last emptying, the longest run of latest ones that fits
  pub longest : LongestRun (λ (x : Numbered Event). length (encode cpu x)) capacity w.since events
  -- 4.3, 7.5: missed is what the record says: last is that of the last event handed out, handed counts them all; and it is a true difference
  pub last : end.last ≡ last_of sequence_of w.reader.last events
  pub handed : end.handed ≡ w.reader.handed + length events
  pub counted : end.handed ≤ end.last

-- the reader's record goes on from there
abbrev pub emptying : Watched → Reader → Watched
emptying w end = record { state = w.state; reader = end; since = [] }
