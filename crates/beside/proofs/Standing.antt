-- What a reader has passed and what a copy has left, by the events accepted: more events behind leave both as they are, and the record moves to the tail,
-- to the end or past an event.
use Prim.Native.Nat.{ℕ, zero, suc, ◌+◌, ◌≤◌, ◌<◌}
use native.Mathlib.Omega.{arith}
use mathlib.Core.Path.{◌≡◌, sym, ap, ◌∙◌, subst}
use mathlib.Core.List.{List, [], ◌∷◌, ◌++◌, append_assoc, append-nil}
use lib.ListN.{drop}
use Rattle.run_rules.specs.Runs.{Rising, last_of}
use Rattle.run_rules.proofs.Runs.{total_append}
use Rattle.run_rules.proofs.Rising.{last_one}
use Rattle.page_rules.specs.Page.{page_of}
use Rattle.reader_rules.specs.Reader.{moved_to}
use Rattle.reader_rules.specs.declared.Reader.{Reader}
use Rattle.reader_rules.proofs.Life.{moved_says, handed_says}
use Rattle.slip_rules.specs.Confirm.{moved_on}
use Rattle.history.specs.Ring.{sequence_of, Numbered, bytes}
use Rattle.promise.specs.Bytes.{Event, size, State, Made, accepted_of}
use Rattle.beside.specs.Life.{Held}
use Rattle.beside.proofs.Parts.{prefixes, last_front}
use Rattle.beside.proofs.Ground.{bytes_of, positive, Ground}
use Rattle.beside.proofs.Copies.{Behind, Stood, right_of}

-- ---- what more events leave as it is

pub behind_more : (all new : List (Numbered Event)) (reader : Reader) → Behind all reader → Behind (all ++ new) reader
behind_more all new reader b = record {
  passed = b.passed;
  ahead = b.ahead ++ new;
  split = ap (λ (l : List (Numbered Event)). l ++ new) b.split ∙ append_assoc b.passed b.ahead new;
  stands = b.stands;
  seen = b.seen;
  counted = b.counted;
}

pub stood_more : (cpu : ℕ) (all new : List (Numbered Event)) (h : Held) → Stood cpu all h → Stood cpu (all ++ new) h
stood_more cpu all new h t = record {
  event = t.event;
  older = t.older;
  younger = t.younger ++ new;
  split = ap (λ (l : List (Numbered Event)). l ++ new) t.split ∙ append_assoc t.older (t.event ∷ t.younger) new;
  stands = t.stands;
  sized = t.sized;
  numbered = t.numbered;
  seen = t.seen;
  bytes = t.bytes;
}

abbrev pub AllStood : ℕ → List (Numbered Event) → List Held → Type 0
AllStood cpu all [] = Unit {0}
AllStood cpu all (h ∷ hs) = Stood cpu all h × AllStood cpu all hs

pub all_stood_more : (cpu : ℕ) (all new : List (Numbered Event)) (hs : List Held) → AllStood cpu all hs → AllStood cpu (all ++ new) hs
all_stood_more cpu all new [] t = tt
all_stood_more cpu all new (h ∷ hs) t = (stood_more cpu all new h t.0, all_stood_more cpu all new hs t.1)

pub all_stood_drop : (cpu : ℕ) (all : List (Numbered Event)) (n : ℕ) (hs : List Held) → AllStood cpu all hs → AllStood cpu all (drop n hs)
all_stood_drop cpu all zero hs t = t
all_stood_drop cpu all (suc n) [] t = t
all_stood_drop cpu all (suc n) (h ∷ hs) t = all_stood_drop cpu all n hs t.1

-- ---- the record, moved

module _ {cpu capacity : ℕ} {calls : List Made} {s : State} (g : Ground cpu capacity calls s) (reader : Reader) (b : Behind (accepted_of calls) reader) where
  abbrev all : List (Numbered Event)
  all = accepted_of calls

  -- to where other events stand in front, at or above its place
  behind_at : (front rest : List (Numbered Event)) → accepted_of calls ≡ front ++ rest → reader.read_pos ≤ bytes_of front
      → Behind (accepted_of calls) (moved_to (bytes_of front) reader)
  behind_at front rest cut h =
      let says = moved_says (bytes_of front) reader in
      let f = prefixes (bytes size) positive b.passed b.ahead front rest (sym b.split ∙ cut) (omega (arith, h, b.stands)) in
      let rises : Rising sequence_of 0 ((b.passed ++ f.0) ++ rest) =
      subst (λ (l : List (Numbered Event)). Rising sequence_of 0 l) (cut ∙ ap (λ (l : List (Numbered Event)). l ++ rest) f.1) g.rising in
      record {
        passed = front;
        ahead = rest;
        split = cut;
        stands = says.read_pos_is;
        seen = omega (arith, says, b.seen, last_front sequence_of 0 b.passed f.0 rest rises, ap (last_of sequence_of 0) f.1);
        counted = omega (arith, says, b.counted);
      }

  -- to the tail, from below it
  pub behind_tail : reader.read_pos ≤ (page_of s.ring).tail_pos → Behind (accepted_of calls) (moved_to (page_of s.ring).tail_pos reader)
  behind_tail h =
      subst (λ (n : ℕ). Behind (accepted_of calls) (moved_to n reader)) (sym g.tail_is)
      (behind_at g.gone g.kept g.split (omega (arith, h, g.tail_is)))

  -- to the end
  pub behind_end : Behind (accepted_of calls) (moved_to (page_of s.ring).write_pos reader)
  behind_end =
      subst (λ (n : ℕ). Behind (accepted_of calls) (moved_to n reader)) (sym g.write_is)
      (behind_at (accepted_of calls) [] (sym (append-nil (accepted_of calls))) (omega (arith, right_of g reader b, g.write_is)))

  -- past an event
  pub behind_event : (h : Held) → Stood cpu (accepted_of calls) h → reader.last < h.slip.sequence
      → Behind (accepted_of calls) (moved_on reader h.slip).reader
  behind_event h t above =
      let says = handed_says (h.slip.position + h.slip.size) h.slip.sequence reader in
      record {
        passed = t.older ++ (t.event ∷ []);
        ahead = t.younger;
        split = t.split ∙ sym (append_assoc t.older (t.event ∷ []) t.younger);
        stands = omega (arith, says, t.stands, t.sized, total_append (bytes size) t.older (t.event ∷ []));
        seen = omega (arith, says, t.numbered, last_one sequence_of 0 t.older t.event);
        counted = omega (arith, says, above, b.counted);
      }
