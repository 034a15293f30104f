-- Any ring of whole events, read until EMPTY. Its events are cut in two, those passed and those to come; from the reader's place on stand the bytes of
-- the latter (`rest_is`), so a read hands out the first of them (`hands`), or there is none and it answers EMPTY (`ends`).
use Prim.Native.Nat.{ℕ, suc, ◌+◌}
use native.Mathlib.Omega.{arith}
use mathlib.Core.Path.{◌≡◌, sym, ap, ◌∙◌, subst}
use mathlib.Core.List.{List, [], ◌∷◌, ◌++◌, append_assoc}
use lib.ListN.{length, drop, length-append}
use lib.Seq.{drop-append_seam}
use Rattle.std.specs.Prelude.{Ok}
use Rattle.run_rules.specs.Runs.{Rising, last_of}
use Rattle.page_rules.specs.declared.Page.{Page}
use Rattle.page_rules.proofs.Facts.{Sound}
use Rattle.event_rules.specs.Event.{sequence}
use Rattle.event_rules.specs.Run.{joined, One, Each}
use Rattle.event_rules.proofs.Wholes.{each_parts}
use Rattle.event_rules.proofs.Front.{joined_append, joined_more, length_joined}
use Rattle.look_rules.specs.Live.{rest, live}
use Rattle.look_rules.proofs.Laws.{rest_same, rest_drop, live_length}
use Rattle.reader_rules.specs.Reader.{reader_with}
use Rattle.reader_rules.specs.Read.{reading_place, read_out}
use Rattle.reader_rules.specs.declared.Reader.{Reader}
use Rattle.reader_rules.specs.declared.Reading.TheVariants as reading
use Rattle.reader_rules.proofs.Facts.{Right}
use Rattle.reader_rules.proofs.Cases.{read_empty}
use Rattle.reader_rules.proofs.Life.{says_with, moved_says, handed_says}
use Rattle.promise.specs.Bytes.{consumed}
use Rattle.promise.proofs.Consumer.{sound_elsewhere, consumed_sound}
use Rattle.promise.proofs.Reading.{reads_front}
use Rattle.comparison.specs.Emptying.{Hands, Ends, Empties}

module _ (s : List ℕ) (p : Page) (sound : Sound s p) (events : List (List ℕ)) (is : live s p ≡ joined events) (each : Each p.cpu_id events) where
  abbrev place : List (List ℕ) → ℕ
  place front = p.tail_pos + length (joined front)

  place_end : (front others : List (List ℕ)) → events ≡ front ++ others → place front + length (joined others) ≡ p.write_pos
  place_end front others cut =
      omega (
        arith,
        sound.order,
        live_length s p,
        ap length (is ∙ ap joined cut ∙ joined_append front others),
        length-append (joined front) (joined others),
      )

  rest_is : (front others : List (List ℕ)) → events ≡ front ++ others → rest s p (place front) ≡ joined others
  unfolding live
  rest_is front others cut =
      sym (rest_drop s p p.tail_pos (length (joined front)) (omega (arith, place_end front others cut)))
      ∙ ap (drop (length (joined front))) (is ∙ ap joined cut ∙ joined_append front others)
      ∙ drop-append_seam (joined front) (joined others)

  -- a reader that has the latter before it
  pub record Before (reader : Reader) (front others : List (List ℕ)) : Type 0 where
    pub cut : events ≡ front ++ others
    pub stands : reading_place p reader ≡ place front
    pub right : Right p reader
    pub rises : Rising sequence reader.last others
    pub known : p.generation ≡ reader.generation

  -- its record once they are handed out
  abbrev pub finished : Reader → List (List ℕ) → Reader
  finished reader others =
      reader_with p.write_pos (last_of sequence reader.last others) (reader.handed + length others) reader.generation

  ends : (reader : Reader) (front : List (List ℕ)) → Before reader front [] → Ends read_out s reader (finished reader [])
  unfolding joined
  ends reader front b consumer out =
      let last : reading_place p reader ≡ p.write_pos = omega (arith, b.stands, place_end front [] b.cut) in
      let none : reader.handed ≡ reader.handed + 0 = omega arith in
      read_empty (consumed s consumer.page) reader out p (consumed_sound s p sound consumer.page consumer.whole) b.right last b.known
      ∙ (λ i. record {
        answered = record {
          answer = Ok reading.Empty;
          reader = (says_with (moved_says (reading_place p reader) reader) ∙ (λ j. reader_with (last j) reader.last (none j) reader.generation)) i;
        };
        out = out;
      })

  module _ (reader : Reader) (front : List (List ℕ)) (event : List ℕ) (others : List (List ℕ)) (b : Before reader front (event ∷ others)) where
    abbrev next : Reader
    next = reader_with (reading_place p reader + length event) (sequence event) (reader.handed + 1) reader.generation

    one : One p.cpu_id event
    one = (each_parts p.cpu_id front (event ∷ others) (subst (Each p.cpu_id) b.cut each)).1.0

    hands : Hands read_out s reader event next
    unfolding joined
    hands consumer out room =
        let now : List ℕ = consumed s consumer.page in
        reads_front now p (consumed_sound s p sound consumer.page consumer.whole) reader b.right event (joined others) one
        (ap (rest now p) b.stands ∙ rest_same s now (sound_elsewhere s p sound consumer.page consumer.whole).beyond p (place front) ∙ rest_is front (event ∷ others) b.cut)
        b.rises.0 out (omega (arith, room))
        ∙ ap (λ (r : Reader). record {
          answered = record { answer = Ok (reading.Event (length event)); reader = r };
          out = event ++ drop (length event) out;
        })
        (says_with (handed_says (reading_place p reader + length event) (sequence event) reader))

    before : Before next (front ++ (event ∷ [])) others
    before = record {
      cut = b.cut ∙ sym (append_assoc front (event ∷ []) others);
      stands = omega (arith, b.stands, ap length (joined_more front event), length-append (joined front) event);
      right = record {
        counted = omega (arith, b.right.counted, b.rises.0);
        behind = omega (arith, b.stands, place_end front (event ∷ others) b.cut, length_joined event others);
      };
      rises = b.rises.1;
      known = b.known;
    }

  pub until_empty : (others : List (List ℕ)) (reader : Reader) (front : List (List ℕ)) → Before reader front others
      → Empties read_out s reader others (finished reader others)
  until_empty [] reader front b = ends reader front b
  until_empty (event ∷ others) reader front b =
      let after : Reader = next reader front event others b in
      let more : reader.handed + 1 + length others ≡ reader.handed + suc (length others) = omega arith in
      let end : finished after others ≡ finished reader (event ∷ others) =
      λ i. reader_with p.write_pos (last_of sequence (sequence event) others) (more i) reader.generation in (
        after,
        hands reader front event others b,
        subst (λ (r : Reader). Empties read_out s after others r) end
            (until_empty others after (front ++ (event ∷ [])) (before reader front event others b)),
      )
