-- Copying at a moment of a history. From the reader's place on stand the events that it hasn't passed, or, where it was lapped, all that are in the ring
-- (`next_kept`); the first of them is copied (`copies_event`), so that an answer with an event is of that one (`copied_stood`).
use Prim.Native.Nat.{ℕ, ◌+◌, ◌^◌, ◌≤◌, ◌<◌}
use native.Mathlib.Omega.{arith}
use mathlib.Core.Path.{◌≡◌, refl, sym, ap, ◌∙◌, subst}
use mathlib.Core.Logic.{⊎_elim}
use mathlib.Core.List.{List, [], ◌∷◌, ◌++◌, map, append_assoc}
use lib.ListN.{length, take, drop}
use lib.Seq.{take_at}
use Rattle.std.specs.Prelude.{Ok}
use Rattle.table_rules.proofs.Tests.{le_or_lt}
use Rattle.run_rules.specs.Runs.{Rising, last_of, total}
use Rattle.run_rules.proofs.Runs.{total_append}
use Rattle.run_rules.proofs.Rising.{rising_parts, rising_last, last_append}
use Rattle.page_rules.specs.Page.{page_of}
use Rattle.page_rules.specs.declared.Page.{Page}
use Rattle.page_rules.proofs.Facts.{Sound}
use Rattle.event_rules.specs.Event.{event_size, sequence}
use Rattle.event_rules.specs.Run.{joined, One}
use Rattle.event_rules.proofs.Front.{size_front, sequence_front}
use Rattle.look_rules.specs.Live.{rest}
use Rattle.look_rules.proofs.Laws.{rest_same}
use Rattle.reader_rules.specs.Read.{reading_place}
use Rattle.reader_rules.specs.declared.Reader.{Reader}
use Rattle.reader_rules.proofs.Facts.{Right}
use Rattle.slip_rules.specs.Copy.{AfterCopy, copying, copy_out}
use Rattle.slip_rules.specs.declared.Slip.{Slip}
use Rattle.slip_rules.specs.declared.Copying.TheVariants.{Event as copiedEvent}
use Rattle.slip_rules.proofs.Cases.{copy_on_sound}
use Rattle.slip_rules.proofs.Taking.{took, slip_in}
use Rattle.history.specs.Ring.{sequence_of, Numbered, bytes}
use Rattle.promise.specs.Bytes.{Event, size, encode, State, consumed, Made, accepted_of}
use Rattle.promise.specs.Demand2.{shown}
use Rattle.promise.proofs.Opened.{sound_of}
use Rattle.promise.proofs.Encoding.{encode_length, encode_sequence}
use Rattle.promise.proofs.Holds.{holds_range}
use Rattle.promise.proofs.Consumer.{sound_elsewhere, consumed_sound}
use Rattle.promise.proofs.Reading.{rest_is, whole, says_size, says_number, says_bytes, next_front}
use Rattle.comparison.specs.Emptying.{Consumer}
use Rattle.beside.specs.Life.{Held}
use Rattle.beside.proofs.Parts.{prefixes}
use Rattle.beside.proofs.Ground.{bytes_of, positive, Ground}

-- a reader's record, by the events accepted: those that it has passed, and those to come
pub record Behind (all : List (Numbered Event)) (reader : Reader) : Type 0 where
  pub passed : List (Numbered Event)
  pub ahead : List (Numbered Event)
  pub split : all ≡ passed ++ ahead
  pub stands : reader.read_pos ≡ bytes_of passed
  pub seen : reader.last ≤ last_of sequence_of 0 passed
  pub counted : reader.handed ≤ reader.last

-- what a copy has left: one of the events accepted, and where it begins
pub record Stood (cpu : ℕ) (all : List (Numbered Event)) (h : Held) : Type 0 where
  pub event : Numbered Event
  pub older : List (Numbered Event)
  pub younger : List (Numbered Event)
  pub split : all ≡ older ++ (event ∷ younger)
  pub stands : h.slip.position ≡ bytes_of older
  pub sized : h.slip.size ≡ size event.event
  pub numbered : h.slip.sequence ≡ event.sequence
  pub seen : h.slip.tail_seen ≤ h.slip.position
  pub bytes : h.front ≡ encode cpu event

module _ {cpu capacity : ℕ} {calls : List Made} {s : State} (g : Ground cpu capacity calls s) where
  abbrev p : Page
  p = page_of s.ring

  abbrev page_sound : Sound s.ring (page_of s.ring)
  page_sound = sound_of g.holds

  abbrev pub now : Consumer → List ℕ
  now c = consumed s.ring c.page

  pub now_sound : (c : Consumer) → Sound (consumed s.ring c.page) (page_of s.ring)
  now_sound c = consumed_sound s.ring p page_sound c.page c.whole

  -- ---- the events in the ring

  module _ (f : List (Numbered Event)) (x : Numbered Event) (m : List (Numbered Event)) (cut : g.kept ≡ f ++ (x ∷ m)) where
    abbrev later : List ℕ
    later = joined (map (encode cpu) m)

    one : One p.cpu_id (encode cpu x)
    one = subst (λ (n : ℕ). One n (encode cpu x)) (sym g.holds.named) (whole cpu capacity s.ring s.writer (shown g.kept s) g.holds f x m cut)

    there : (c : Consumer) → rest (now c) p (p.tail_pos + bytes_of f) ≡ encode cpu x ++ later
    there c =
        rest_same s.ring (now c) (sound_elsewhere s.ring p page_sound c.page c.whole).beyond p (p.tail_pos + bytes_of f)
        ∙ rest_is cpu capacity s.ring s.writer (shown g.kept s) g.holds f x m cut

    bytes_long : bytes_of g.kept ≡ bytes_of f + (size x.event + bytes_of m)
    bytes_long = ap (total (bytes size)) cut ∙ total_append (bytes size) f (x ∷ m)

    known : x.sequence < 2 ^ 64
    known =
        let all : Rising sequence_of 0 (f ++ (x ∷ m)) = subst (λ (l : List (Numbered Event)). Rising sequence_of 0 l) cut g.holds.holding.rising in
        omega (
          arith,
          rising_last sequence_of x.sequence m (rising_parts sequence_of 0 f (x ∷ m) all).1.1,
          last_append sequence_of 0 f (x ∷ m),
          ap (last_of sequence_of 0) cut,
          g.holds.holding.known,
          g.holds.holding.spendable,
        )

    pub number_is : sequence (encode cpu x) ≡ x.sequence
    number_is =
        encode_sequence cpu g.holds.narrow x
        (omega (arith, bytes_long, g.holds.holding.fits, holds_range cpu capacity s.ring s.writer (shown g.kept s) g.holds)) known

    module _ (reader : Reader) (stands : reading_place p reader ≡ p.tail_pos + bytes_of f) (c : Consumer) (out : List ℕ) where
      here : rest (now c) p (reading_place p reader) ≡ encode cpu x ++ later
      here = ap (rest (now c) p) stands ∙ there c

      -- what the bytes there say
      pub sequence_there : sequence (rest (now c) p (reading_place p reader)) ≡ x.sequence
      sequence_there = ap sequence here ∙ sequence_front p.cpu_id (encode cpu x) one later ∙ number_is

      pub size_there : event_size (rest (now c) p (reading_place p reader)) ≡ size x.event
      size_there = ap event_size here ∙ size_front p.cpu_id (encode cpu x) one later ∙ encode_length cpu x

      pub copies_event : Right p reader → reader.last < x.sequence → size x.event ≤ length out
          → copy_out (now c) reader out ≡ record {
            copied = record {
              answer = Ok (copiedEvent (record {
                position = p.tail_pos + bytes_of f;
                size = size x.event;
                sequence = x.sequence;
                tail_seen = p.tail_pos;
              }));
              reader = reader;
            };
            out = encode cpu x ++ drop (size x.event) out;
          }
      copies_event right above room =
          let over : reader.last < sequence (encode cpu x) = omega (arith, above, number_is) in
          let long : length (encode cpu x) ≤ length out = omega (arith, room, encode_length cpu x) in
          let sizes = says_size (now c) p (now_sound c) reader right (encode cpu x) later one here over out long ∙ encode_length cpu x in
          let numbers = says_number (now c) p (now_sound c) reader right (encode cpu x) later one here over out long ∙ number_is in
          let bytes = says_bytes (now c) p (now_sound c) reader right (encode cpu x) later one here over out long in
          copy_on_sound (now c) reader out p (now_sound c)
          ∙ next_front (now c) p (now_sound c) reader right (encode cpu x) later one here over out long (copying p reader out)
          ∙ (λ i. record {
            copied = record {
              answer = Ok (copiedEvent (record { position = stands i; size = sizes i; sequence = numbers i; tail_seen = p.tail_pos }));
              reader = reader;
            };
            out = bytes i ++ drop (sizes i) out;
          })

  -- ---- a reader at its place

  module _ (reader : Reader) (b : Behind (accepted_of calls) reader) where
    sizes : bytes_of (accepted_of calls) ≡ bytes_of b.passed + bytes_of b.ahead
    sizes = ap (total (bytes size)) b.split ∙ total_append (bytes size) b.passed b.ahead

    pub right_of : Right p reader
    right_of = record { counted = b.counted; behind = omega (arith, b.stands, g.write_is, sizes) }

    abbrev Next : Type 0
    Next = (f : List (Numbered Event)) × (x : Numbered Event) × (m : List (Numbered Event)) × (g.kept ≡ f ++ (x ∷ m))
        × (reading_place p reader ≡ p.tail_pos + bytes_of f)

    -- it has passed all that has gone
    abreast : p.tail_pos ≤ reader.read_pos → (reading_place p reader ≡ p.write_pos → ⊥) → Next
    abreast h apart = by b.ahead refl
      where
        by : (ahead : List (Numbered Event)) → b.ahead ≡ ahead → Next
        by [] none = absurd (apart (omega (arith, h, b.stands, g.write_is, sizes, ap (total (bytes size)) none)))
        by (x ∷ m) is =
            let cut = prefixes (bytes size) positive g.gone g.kept b.passed b.ahead (sym g.split ∙ b.split) (omega (arith, h, b.stands, g.tail_is)) in (
              cut.0,
              x,
              m,
              cut.2 ∙ ap (λ (l : List (Numbered Event)). cut.0 ++ l) is,
              omega (arith, h, b.stands, g.tail_is, ap (total (bytes size)) cut.1, total_append (bytes size) g.gone cut.0),
            )

    lapped : reader.read_pos < p.tail_pos → (reading_place p reader ≡ p.write_pos → ⊥) → Next
    lapped h apart = by g.kept refl
      where
        by : (kept : List (Numbered Event)) → g.kept ≡ kept → Next
        by [] none = absurd (apart (omega (arith, h, g.holds.write_is, ap (total (bytes size)) none)))
        by (x ∷ m) is = ([], x, m, is, omega (arith, h))

    pub next_kept : (reading_place p reader ≡ p.write_pos → ⊥) → Next
    next_kept apart = ⊎_elim (λ h. abreast h apart) (λ h. lapped h apart) (le_or_lt p.tail_pos reader.read_pos)

    module _ (c : Consumer) (out : List ℕ) (slip : Slip) (told : (copy_out (consumed s.ring c.page) reader out).copied.answer ≡ Ok (copiedEvent slip)) where
      abbrev answered : AfterCopy
      answered = copy_out (now c) reader out

      pub copied_stood : Stood cpu (accepted_of calls) (record { slip = slip; front = take slip.size (copy_out (consumed s.ring c.page) reader out).out })
          × (reader.read_pos ≤ slip.position) × (reader.last < slip.sequence) × ((copy_out (consumed s.ring c.page) reader out).copied.reader ≡ reader)
      copied_stood =
          let opened = sym (ap (λ (a : AfterCopy). a.copied.answer) (copy_on_sound (now c) reader out p (now_sound c))) ∙ told in
          let t = took (now c) p reader out page_sound.order slip opened in
          let n = next_kept t.below in
          let f = n.0 in
          let x = n.1 in
          let m = n.2 in
          let cut = n.3 in
          let above : reader.last < x.sequence = omega (arith, t.above, sequence_there f x m cut reader n.4 c out) in
          let copies = copies_event f x m cut reader n.4 c out right_of above (omega (arith, t.room, size_there f x m cut reader n.4 c out)) in
          let is : slip ≡ record { position = p.tail_pos + bytes_of f; size = size x.event; sequence = x.sequence; tail_seen = p.tail_pos } =
          sym (ap (slip_in slip) told) ∙ ap (λ (a : AfterCopy). slip_in slip a.copied.answer) copies in
          let stands = ap (λ (z : Slip). z.position) is in (
            record {
              event = x;
              older = g.gone ++ f;
              younger = m;
              split = g.split ∙ ap (λ (l : List (Numbered Event)). g.gone ++ l) cut ∙ sym (append_assoc g.gone f (x ∷ m));
              stands = omega (arith, stands, g.tail_is, total_append (bytes size) g.gone f);
              sized = ap (λ (z : Slip). z.size) is;
              numbered = ap (λ (z : Slip). z.sequence) is;
              seen = omega (arith, stands, ap (λ (z : Slip). z.tail_seen) is);
              bytes =
                  ap (take slip.size) (ap (λ (a : AfterCopy). a.out) copies)
                  ∙ take_at (encode cpu x) (drop (size x.event) out) slip.size (encode_length cpu x ∙ sym (ap (λ (z : Slip). z.size) is));
            },
            omega (arith, stands, n.4),
            omega (arith, above, ap (λ (z : Slip). z.sequence) is),
            ap (λ (a : AfterCopy). a.copied.reader) copies,
          )
