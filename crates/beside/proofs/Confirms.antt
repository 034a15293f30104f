-- Confirming at a moment of a history what a copy has left. No condition of 13 is met, so that the tail alone decides (`over`, `on`): an event below it has
-- gone (`outside`), one at or above it is in the ring (`inside`). After AGAIN the oldest event in the ring comes behind the one that has gone.
use Prim.Native.Nat.{ℕ, ◌+◌, ◌≤◌, ◌<◌}
use native.Mathlib.Omega.{arith}
use mathlib.Core.Path.{◌≡◌, sym, ap, ◌∙◌, subst}
use mathlib.Core.Logic.{◌≢◌, ⊎_elim}
use mathlib.Core.List.{List, [], ◌∷◌, ◌++◌, append_assoc}
use lib.ListN.{drop}
use Rattle.std.specs.Prelude.{Result, Ok, Err}
use Rattle.table_rules.specs.declared.Refusal.{Refusal}
use Rattle.table_rules.proofs.Tests.{le_or_lt}
use Rattle.run_rules.specs.Runs.{Rising, total}
use Rattle.run_rules.proofs.Runs.{total_append}
use Rattle.run_rules.proofs.Rising.{rising_parts}
use Rattle.page_rules.specs.Page.{page_of}
use Rattle.page_rules.specs.declared.Page.{Page}
use Rattle.reader_rules.specs.Reader.{moved_to}
use Rattle.reader_rules.specs.declared.Reader.{Reader}
use Rattle.reader_rules.proofs.Facts.{Right}
use Rattle.reader_rules.proofs.Life.{moved_says}
use Rattle.slip_rules.specs.Confirm.{started_over, moved_on, confirmed}
use Rattle.slip_rules.specs.declared.Slip.{Slip}
use Rattle.slip_rules.specs.declared.Copying.TheVariants.{Event as copiedEvent}
use Rattle.slip_rules.specs.declared.Confirming.{Confirming}
use Rattle.slip_rules.specs.declared.Confirming.TheVariants.{Done, Again}
use Rattle.slip_rules.proofs.Facts.{Fitting}
use Rattle.slip_rules.proofs.Slips.{has_gone, still_there}
use Rattle.slip_rules.proofs.Cases.{confirm_on_sound, starts_over, advances}
use Rattle.history.specs.Ring.{sequence_of, Numbered, bytes}
use Rattle.promise.specs.Bytes.{Event, size, encode, State, consumed, Turn, Made, made, after, accepted_of}
use Rattle.comparison.specs.Emptying.{Consumer}
use Rattle.beside.specs.Life.{Held}
use Rattle.beside.specs.Beside.{Among, AtOldest, Settles}
use Rattle.beside.proofs.Parts.{rises_to, same_place}
use Rattle.beside.proofs.Accepted.{accepted_more}
use Rattle.beside.proofs.Ground.{bytes_of, Ground, inside, outside, behind, some_kept, tail_rises}
use Rattle.beside.proofs.Copies.{Stood, now_sound, copies_event}
use Rattle.reader_rules.specs.declared.Answered.{Answered}

abbrev kind : Result Confirming Refusal → ℕ
kind (Ok Done) = 0
kind (Ok Again) = 1
kind (Err r) = 2

module _ {cpu capacity : ℕ} {calls : List Made} {s : State} (g : Ground cpu capacity calls s) (h : Held) (t : Stood cpu (accepted_of calls) h)
    (reader : Reader) (right : Right (page_of s.ring) reader) (c : Consumer) where
  abbrev p : Page
  p = page_of s.ring

  abbrev slip : Slip
  slip = h.slip

  -- what confirming leaves
  abbrev a : Answered Confirming
  a = confirmed (consumed s.ring c.page) reader slip

  sizes : bytes_of (accepted_of calls) ≡ bytes_of t.older + (size t.event.event + bytes_of t.younger)
  sizes = ap (total (bytes size)) t.split ∙ total_append (bytes size) t.older (t.event ∷ t.younger)

  module _ (onward : reader.read_pos ≤ h.slip.position) (above : reader.last < h.slip.sequence) where
    fits : Fitting p reader slip
    fits = record {
      onward = onward;
      least = omega (arith, t.sized);
      within = omega (arith, t.stands, t.sized, sizes, g.write_is);
      above = above;
    }

    pub over : h.slip.position < (page_of s.ring).tail_pos → confirmed (consumed s.ring c.page) reader h.slip ≡ started_over (page_of s.ring) reader
    over below =
        confirm_on_sound (consumed s.ring c.page) reader slip p (now_sound g c)
        ∙ starts_over p reader slip right fits (has_gone p slip (omega (arith, below, t.seen)) below)

    pub on : (page_of s.ring).tail_pos ≤ h.slip.position → confirmed (consumed s.ring c.page) reader h.slip ≡ moved_on reader h.slip
    on there =
        confirm_on_sound (consumed s.ring c.page) reader slip p (now_sound g c)
        ∙ advances p reader slip right fits (still_there p slip there)

    -- ---- AGAIN, or not

    answers : (r : Refusal) → a.answer ≢ Err r
    answers r e =
        ⊎_elim
        (λ there. omega (arith, ap (λ (x : Answered Confirming). kind x.answer) (on there), ap kind e))
        (λ below. omega (arith, ap (λ (x : Answered Confirming). kind x.answer) (over below), ap kind e))
        (le_or_lt p.tail_pos slip.position)

    below_tail : a.answer ≡ Ok Again → slip.position < p.tail_pos
    below_tail e =
        ⊎_elim (λ there. absurd (omega (arith, ap (λ (x : Answered Confirming). kind x.answer) (on there), ap kind e))) (λ below. below)
        (le_or_lt p.tail_pos slip.position)

    says_again : slip.position < p.tail_pos → a.answer ≡ Ok Again
    says_again below = ap (λ (x : Answered Confirming). x.answer) (over below)

    not_kept : a.answer ≡ Ok Again → Among t.event g.kept → ⊥
    not_kept e among = omega (arith, below_tail e, t.stands, outside g t.older t.event t.younger t.split among)

    if_gone : (Among t.event g.kept → ⊥) → a.answer ≡ Ok Again
    if_gone gone =
        ⊎_elim
        (λ there.
        let cut = inside g t.older t.event t.younger t.split (omega (arith, there, t.stands)) in
        absurd (gone (record { older = cut.0; younger = t.younger; split = cut.2 })))
        says_again (le_or_lt p.tail_pos slip.position)

    alone : (other : Numbered Event) → Among other (accepted_of calls) → other.sequence ≡ slip.sequence → other ≡ t.event
    alone other among e =
        sym
        (same_place sequence_of 0 t.older t.younger among.older among.younger t.event other
        (subst (λ (l : List (Numbered Event)). Rising sequence_of 0 l) t.split g.rising) (sym t.split ∙ among.split)
        (omega (arith, e, t.numbered))).1

    -- ---- after AGAIN

    module _ (e : a.answer ≡ Ok Again) (later : List Made) (end : State) (k : Ground cpu capacity (calls ++ later) end) where
      abbrev q : Page
      q = page_of end.ring

      -- the record starts over at the tail
      record_is : a.reader ≡ moved_to p.tail_pos reader
      record_is = ap (λ (x : Answered Confirming). x.reader) (over (below_tail e))

      -- the event among all that was accepted until then
      split_then : accepted_of (calls ++ later) ≡ t.older ++ (t.event ∷ (t.younger ++ accepted_of later))
      split_then =
          accepted_more calls later
          ∙ ap (λ (l : List (Numbered Event)). l ++ accepted_of later) t.split
          ∙ append_assoc t.older (t.event ∷ t.younger) (accepted_of later)

      rises : (oldest : Numbered Event) (younger : List (Numbered Event)) → k.kept ≡ oldest ∷ younger → t.event.sequence < oldest.sequence
      rises oldest younger first =
          let cut = behind k t.older t.event (t.younger ++ accepted_of later) split_then (omega (arith, below_tail e, t.stands, tail_rises g later k)) in
          let all : Rising sequence_of 0 (t.older ++ (t.event ∷ (t.younger ++ accepted_of later))) =
          subst (λ (l : List (Numbered Event)). Rising sequence_of 0 l) split_then k.rising in
          rises_to sequence_of t.event.sequence cut.0 oldest younger
          (subst (λ (l : List (Numbered Event)). Rising sequence_of t.event.sequence l)
          (cut.2 ∙ ap (λ (l : List (Numbered Event)). cut.0 ++ l) first)
          (rising_parts sequence_of 0 t.older (t.event ∷ (t.younger ++ accepted_of later)) all).1.1)

      at_oldest : AtOldest cpu end.ring k.kept a.reader
      at_oldest =
          let among : Among t.event (accepted_of (calls ++ later)) = record { older = t.older; younger = t.younger ++ accepted_of later; split = split_then } in
          let some = some_kept k t.event among in
          let oldest = some.0 in
          let younger = some.1 in
          let says = moved_says p.tail_pos reader in
          let risen = tail_rises g later k in
          let none : q.tail_pos + 0 ≡ q.tail_pos = omega arith in
          subst (λ (r : Reader). AtOldest cpu end.ring k.kept r) (sym record_is)
          (record {
            oldest = oldest;
            younger = younger;
            first = some.2;
            copies = λ consumer out room.
                copies_event k [] oldest younger some.2 (moved_to p.tail_pos reader) (omega (arith, says, risen)) consumer out
                (record { counted = omega (arith, says, right); behind = omega (arith, says, risen, k.holds.write_is) })
                (omega (arith, says, above, t.numbered, rises oldest younger some.2)) room
                ∙ ap (λ (n : ℕ). record {
                  copied = record {
                    answer = Ok (copiedEvent (record { position = n; size = size oldest.event; sequence = oldest.sequence; tail_seen = q.tail_pos }));
                    reader = moved_to p.tail_pos reader;
                  };
                  out = encode cpu oldest ++ drop (size oldest.event) out;
                }) none;
          })

    pub settles : ((later : List Turn) → Ground cpu capacity (calls ++ made s later) (after s later))
        → Settles cpu capacity calls s h.slip h.front (confirmed (consumed s.ring c.page) reader h.slip)
    settles grounds = record {
      event = t.event;
      accepted = record { older = t.older; younger = t.younger; split = t.split };
      numbered = sym t.numbered;
      alone = alone;
      bytes = t.bytes;
      kept = g.kept;
      ring = g.ring;
      answers = answers;
      again = (below_tail, says_again);
      gone = (not_kept, if_gone);
      over = λ e later.
          let k = grounds later in
          (k.kept, k.ring, at_oldest e (made s later) (after s later) k);
    }
