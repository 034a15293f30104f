-- Reading where an event stands at the reader's place (`reads_front`). On bytes that hold a ring they are from there on that event's and then the later
-- ones' (`rest_is`), or there is none.
use Prim.Native.Nat.{ℕ, ◌+◌, ◌^◌, ◌≤◌, ◌<◌}
use native.Mathlib.Omega.{arith}
use mathlib.Core.Path.{◌≡◌, sym, ap, ◌∙◌, subst}
use mathlib.Core.List.{List, ◌∷◌, ◌++◌, map}
use lib.ListN.{length, take, drop, length-append}
use lib.Seq.{take_at, drop_at}
use Rattle.std.specs.Prelude.{Ok}
use Rattle.page_rules.specs.Page.{page_of}
use Rattle.page_rules.specs.declared.Page.{Page}
use Rattle.page_rules.proofs.Facts.{Sound}
use Rattle.region_rules.specs.Region.{bytes_at}
use Rattle.event_rules.specs.Event.{event_size, sequence, well_formed}
use Rattle.event_rules.specs.Run.{joined, One, Each}
use Rattle.event_rules.proofs.Wholes.{each_parts}
use Rattle.event_rules.proofs.Front.{one_long, size_front, sequence_front, well_front, take_front, joined_append}
use Rattle.look_rules.specs.Live.{rest, live}
use Rattle.look_rules.proofs.Laws.{rest_length, rest_drop, rest_take}
use Rattle.writer_rules.specs.declared.Writer.{Writer}
use Rattle.reader_rules.specs.Reader.{reader_with, moved_to, handed_one}
use Rattle.reader_rules.specs.Attach.{attached}
use Rattle.reader_rules.specs.Read.{reading_place, Leaves, next_opened, read_out}
use Rattle.reader_rules.specs.Read.{reading as reads}
use Rattle.reader_rules.specs.declared.Reader.{Reader}
use Rattle.reader_rules.specs.declared.Reading.TheVariants as reading
use Rattle.reader_rules.proofs.Facts.{Right}
use Rattle.reader_rules.proofs.Attaching.{attach_done}
use Rattle.reader_rules.proofs.Life.{says_with, attached_says}
use Rattle.reader_rules.proofs.Steps.{opened_event}
use Rattle.reader_rules.proofs.Cases.{on_sound, read_empty}
use Rattle.run_rules.specs.Runs.{total}
use Rattle.history.specs.Ring.{Numbered, Ring, bytes, write}
use Rattle.history.proofs.IdealReading.{Place, attach_at}
use Rattle.run_rules.proofs.Runs.{total_append}
use Rattle.promise.specs.Bytes.{Event, size, encode}
use Rattle.promise.specs.Holds.{Holds}
use Rattle.promise.proofs.Opened.{sound_of}
use Rattle.promise.proofs.Encoding.{map_append, encode_length, encode_sequence, joined_length}
use Rattle.promise.proofs.Holds.{holds_range, holds_whole}

-- an event stands at the reader's place, and other bytes behind it: of reading and of copying alike
module _ (s : List ℕ) (p : Page) (sound : Sound s p) (reader : Reader) (right : Right p reader) (event more : List ℕ) (one : One p.cpu_id event)
    (there : rest s p (reading_place p reader) ≡ event ++ more) (above : reader.last < sequence event) (out : List ℕ) (room : length event ≤ length out) where
  abbrev place : ℕ
  place = reading_place p reader

  -- what the bytes there say
  pub says_size : event_size (event ++ more) ≡ length event
  says_size = size_front p.cpu_id event one more

  pub says_number : sequence (event ++ more) ≡ sequence event
  says_number = sequence_front p.cpu_id event one more

  pub says_bytes : take (event_size (event ++ more)) (event ++ more) ≡ event
  says_bytes = take_front p.cpu_id event one more

  pub next_front : {A : Type 0} (leaves : Leaves A) → next_opened leaves s p reader out ≡ leaves.event (reading_place p reader) (event ++ more)
  next_front leaves =
      let below : place < p.write_pos =
      omega (arith, rest_length s p place, ap length there, length-append event more, one_long p.cpu_id event one more) in
      opened_event leaves s p reader out sound.order right below
      (ap (well_formed p.cpu_id) there ∙ well_front p.cpu_id event one more)
      (omega (arith, above, ap sequence there, says_number))
      (omega (arith, room, ap event_size there, says_size))
      ∙ ap (leaves.event place) there

  pub reads_front : read_out s reader out ≡ record {
    answered = record {
      answer = Ok (reading.Event (length event));
      reader = handed_one (reading_place p reader + length event) (sequence event) reader;
    };
    out = event ++ drop (length event) out;
  }
  reads_front =
      on_sound s reader out p sound
      ∙ next_front (reads p reader out)
      ∙ (λ i. record {
        answered = record { answer = Ok (reading.Event (says_size i)); reader = handed_one (place + says_size i) (says_number i) reader };
        out = says_bytes i ++ drop (says_size i) out;
      })

-- the record of a reader of the ring without bytes, with a generation
abbrev pub record_of : ℕ → Place → Reader
record_of generation r = reader_with r.read_pos r.last r.handed generation

pub attaches : (cpu capacity : ℕ) (s : List ℕ) (w : Writer) (ring : Ring Event) → Holds cpu capacity s w ring → (any : Reader)
    → attached s any ≡ record { answer = Ok tt; reader = record_of (page_of s).generation (attach_at ring) }
attaches cpu capacity s w ring h any =
    attach_done s any (page_of s) (sound_of h)
    ∙ ap (λ (r : Reader). record { answer = Ok tt; reader = r })
    (says_with (attached_says (page_of s)) ∙ ap (λ (tail : ℕ). reader_with tail 0 0 (page_of s).generation) h.tail_is)

module _ (cpu capacity : ℕ) (s : List ℕ) (w : Writer) (ring : Ring Event) (h : Holds cpu capacity s w ring) where
  abbrev p : Page
  p = page_of s

  -- a reader with no event left
  pub reads_empty : (reader : Reader) (out : List ℕ) → reading_place p reader ≡ write size ring → reader.read_pos ≤ write size ring
      → reader.handed ≤ reader.last → p.generation ≡ reader.generation
      → read_out s reader out ≡ record { answered = record { answer = Ok reading.Empty; reader = moved_to (write size ring) reader }; out = out }
  reads_empty reader out end behind counted same =
      read_empty s reader out p (sound_of h)
      (record { counted = counted; behind = omega (arith, behind, h.write_is) }) (end ∙ sym h.write_is) same
      ∙ ap (λ (k : ℕ). record { answered = record { answer = Ok reading.Empty; reader = moved_to k reader }; out = out }) end

  module _ (front : List (Numbered Event)) (x : Numbered Event) (more : List (Numbered Event)) (cut : ring.kept ≡ front ++ (x ∷ more)) where
    -- where the event begins
    abbrev at : ℕ
    at = ring.tail + total (bytes size) front

    sizes : total (bytes size) ring.kept ≡ total (bytes size) front + (size x.event + total (bytes size) more)
    sizes = ap (total (bytes size)) cut ∙ total_append (bytes size) front (x ∷ more)

    -- the bytes from there on are its own, and then those of the later ones
    pub rest_is : rest s p at ≡ encode cpu x ++ joined (map (encode cpu) more)
    unfolding live joined
    rest_is =
        ap (λ (n : ℕ). rest s p (n + total (bytes size) front)) (sym h.tail_is)
        ∙ sym (rest_drop s p p.tail_pos (total (bytes size) front) (omega (arith, h.tail_is, h.write_is, sizes)))
        ∙ ap (drop (total (bytes size) front)) h.bytes_are
        ∙ ap (λ (l : List (Numbered Event)). drop (total (bytes size) front) (joined (map (encode cpu) l))) cut
        ∙ ap (λ (l : List (List ℕ)). drop (total (bytes size) front) (joined l)) (map_append (encode cpu) front (x ∷ more))
        ∙ ap (drop (total (bytes size) front)) (joined_append (map (encode cpu) front) (map (encode cpu) (x ∷ more)))
        ∙ drop_at (joined (map (encode cpu) front)) (joined (map (encode cpu) (x ∷ more))) (total (bytes size) front) (joined_length cpu front)

    -- so they stand there
    pub event_at : bytes_at s capacity at (size x.event) ≡ encode cpu x
    event_at =
        ap (λ (c : ℕ). bytes_at s c at (size x.event)) (sym h.sized)
        ∙ sym (rest_take s p at (size x.event) (omega (arith, h.write_is, sizes)))
        ∙ ap (take (size x.event)) rest_is
        ∙ take_at (encode cpu x) (joined (map (encode cpu) more)) (size x.event) (encode_length cpu x)

    pub whole : One cpu (encode cpu x)
    whole =
        let each : Each cpu (map (encode cpu) front ++ map (encode cpu) (x ∷ more)) =
        subst (Each cpu) (ap (map (encode cpu)) cut ∙ map_append (encode cpu) front (x ∷ more)) (holds_whole cpu capacity s w ring h).0.0 in
        (each_parts cpu (map (encode cpu) front) (map (encode cpu) (x ∷ more)) each).1.0

    -- what a reader at its place is handed
    pub reads_event : x.sequence < 2 ^ 64 → (reader : Reader) (out : List ℕ) → reading_place p reader ≡ at → reader.read_pos ≤ write size ring
        → reader.handed ≤ reader.last → reader.last < x.sequence → size x.event ≤ length out
        → read_out s reader out
        ≡ record {
          answered = record {
            answer = Ok (reading.Event (size x.event));
            reader = handed_one (at + size x.event) x.sequence reader;
          };
          out = encode cpu x ++ drop (size x.event) out;
        }
    reads_event known reader out stands behind counted above long =
        let number : sequence (encode cpu x) ≡ x.sequence =
        encode_sequence cpu h.narrow x (omega (arith, sizes, h.holding.fits, holds_range cpu capacity s w ring h)) known in
        let bytes : length (encode cpu x) ≡ size x.event = encode_length cpu x in
        reads_front s p (sound_of h) reader (record { counted = counted; behind = omega (arith, behind, h.write_is) })
        (encode cpu x) (joined (map (encode cpu) more)) (subst (λ (n : ℕ). One n (encode cpu x)) (sym h.named) whole)
        (ap (rest s p) stands ∙ rest_is) (omega (arith, above, number)) out (omega (arith, long, bytes))
        ∙ (λ i. record {
          answered = record {
            answer = Ok (reading.Event (bytes i));
            reader = handed_one (stands i + bytes i) (number i) reader;
          };
          out = encode cpu x ++ drop (bytes i) out;
        })
