-- A life, act by act: its emissions are one history on a fresh ring, the reader has passed some of the events accepted, each slip held is one of them, and
-- what was confirmed rises (`Standing`). Each act keeps that: an emission adds events behind, a copy leaves the record or moves it to the end, and a confirm
-- is refused, starts over at the tail, or moves past the slip's event.
use Prim.Native.Nat.{ℕ, ◌+◌, ◌^◌, ◌≤◌, ◌<◌}
use native.Mathlib.Omega.{arith}
use mathlib.Core.Path.{◌≡◌, refl, sym, ap, ap₂, ◌∙◌, subst, subst₂}
use mathlib.Core.Logic.{⊎_elim}
use mathlib.Core.Bool.{true, false}
use mathlib.Core.List.{List, [], ◌∷◌, ◌++◌}
use lib.ListN.{length, drop, length-append}
use Rattle.std.specs.Prelude.{Result, Ok, Err}
use Rattle.table_rules.specs.declared.Refusal.{Refusal}
use Rattle.table_rules.specs.declared.Refusal.TheVariants as refusal
use Rattle.table_rules.proofs.Tests.{either, le_or_lt}
use Rattle.run_rules.proofs.Rising.{rising_one, last_one}
use Rattle.capacity_rules.specs.Capacity.{allowed}
use Rattle.page_rules.specs.Page.{page_of}
use Rattle.page_rules.specs.declared.Page.{Page}
use Rattle.reader_rules.specs.Reader.{moved_to}
use Rattle.reader_rules.specs.Read.{reading_place}
use Rattle.reader_rules.specs.declared.Reader.{Reader}
use Rattle.reader_rules.proofs.Life.{attached_says, moved_says, handed_says}
use Rattle.reader_rules.proofs.Attaching.{attach_done}
use Rattle.slip_rules.specs.Copy.{AfterCopy}
use Rattle.slip_rules.specs.Confirm.{not_confirmed, wrong_slip, started_over, moved_on}
use Rattle.slip_rules.specs.declared.Copying.{Copying}
use Rattle.slip_rules.specs.declared.Copying.TheVariants as copying
use Rattle.slip_rules.proofs.Slips.{fitting}
use Rattle.slip_rules.proofs.Cases.{copy_on_sound, confirm_on_sound, slip_refused, over_says}
use Rattle.slip_rules.proofs.Taking.{record_after_lem}
use Rattle.history.specs.Ring.{sequence_of, Numbered}
use Rattle.promise.specs.Bytes.{Event, encode, State, consumed, Turn, Made, made, after, accepted_of}
use Rattle.promise.specs.Demand2.{created_state}
use Rattle.promise.proofs.Encoding.{map_append}
use Rattle.comparison.specs.Emptying.{Consumer}
use Rattle.beside.specs.Life.{Held, Life, Act, Emit, Copy, Confirm, copy_now, confirm_now, held_after, after_emissions, after_copying, after_confirming}
use Rattle.beside.specs.Life.{confirm_first, acted, through_acts, attached_after}
use Rattle.beside.specs.Beside.{EachAmong, InOrder}
use Rattle.beside.proofs.Parts.{each_more, each_one}
use Rattle.beside.proofs.Accepted.{after_more, made_more, accepted_more}
use Rattle.beside.proofs.Ground.{Ground, ground}
use Rattle.beside.proofs.Copies.{Behind, Stood, now_sound, right_of, copied_stood}
use Rattle.beside.proofs.Confirms.{over, on}
use Rattle.beside.proofs.Standing.{behind_more, AllStood, all_stood_more, all_stood_drop, behind_tail, behind_end, behind_event}
use Rattle.reader_rules.specs.declared.Answered.{Answered}
use Rattle.slip_rules.specs.declared.Confirming.{Confirming}

module _ (cpu capacity : ℕ) (narrow : cpu < 2 ^ 16) (fit : allowed capacity ≡ true) (buffer : List ℕ) (long : length buffer ≡ 8192 + capacity) where
  abbrev created : State
  created = created_state cpu buffer

  pub record Standing (l : Life) : Type 0 where
    pub turns : List Turn
    pub state_is : l.state ≡ after (created_state cpu buffer) turns
    pub calls_is : l.calls ≡ made (created_state cpu buffer) turns
    pub behind : Behind (accepted_of l.calls) l.reader
    pub stood : AllStood cpu (accepted_of l.calls) l.held
    pub order : InOrder cpu l

  pub ground_of : (l : Life) → Standing l → Ground cpu capacity l.calls l.state
  ground_of l i =
      subst₂ (λ (ms : List Made) (s : State). Ground cpu capacity ms s) (sym i.calls_is) (sym i.state_is)
      (ground cpu capacity narrow fit buffer long i.turns)

  -- ---- an emission, or several

  pub keeps_emissions : (l : Life) (turns : List Turn) → Standing l → Standing (after_emissions l turns)
  keeps_emissions l turns i =
      let new : List Made = made l.state turns in
      let more : accepted_of (l.calls ++ new) ≡ accepted_of l.calls ++ accepted_of new = accepted_more l.calls new in
      record {
        turns = i.turns ++ turns;
        state_is = ap (λ (s : State). after s turns) i.state_is ∙ sym (after_more i.turns turns created);
        calls_is = ap₂ (λ (ms : List Made) (s : State). ms ++ made s turns) i.calls_is i.state_is ∙ sym (made_more i.turns turns created);
        behind = subst (λ (all : List (Numbered Event)). Behind all l.reader) (sym more)
            (behind_more (accepted_of l.calls) (accepted_of new) l.reader i.behind);
        stood = subst (λ (all : List (Numbered Event)). AllStood cpu all l.held) (sym more)
            (all_stood_more cpu (accepted_of l.calls) (accepted_of new) l.held i.stood);
        order = record {
          handed = i.order.handed;
          bytes = i.order.bytes;
          rising = i.order.rising;
          accepted = subst (λ (all : List (Numbered Event)). EachAmong i.order.handed all) (sym more)
              (each_more i.order.handed (accepted_of l.calls) (accepted_of new) i.order.accepted);
          counted = i.order.counted;
          last = i.order.last;
        };
      }

  -- ---- a copy

  module _ (l : Life) (i : Standing l) (c : Consumer) (out : List ℕ) where
    abbrev a : AfterCopy
    a = copy_now l c out

    abbrev p : Page
    p = page_of l.state.ring

    g : Ground cpu capacity l.calls l.state
    g = ground_of l i

    -- the counts stay, and the reader stands behind what it stood behind, or at the end
    abbrev Same : Reader → Type 0
    Same r = Behind (accepted_of l.calls) r × (r.handed ≡ l.reader.handed) × (r.last ≡ l.reader.last)

    at_end_lem : reading_place p l.reader ≡ p.write_pos → Same (moved_to (reading_place p l.reader) l.reader)
    at_end_lem e =
        let says = moved_says (reading_place p l.reader) l.reader in (
          subst (λ (n : ℕ). Behind (accepted_of l.calls) (moved_to n l.reader)) (sym e) (behind_end g l.reader i.behind),
          says.handed_is,
          says.last_is,
        )

    same : Same a.copied.reader
    same =
        subst (λ (x : AfterCopy). Same x.copied.reader) (sym (copy_on_sound (consumed l.state.ring c.page) l.reader out p (now_sound g c)))
        (record_after_lem (consumed l.state.ring c.page) p l.reader out (now_sound g c).order Same (i.behind, refl, refl) at_end_lem)

    held : (answer : Result Copying Refusal) → a.copied.answer ≡ answer → AllStood cpu (accepted_of l.calls) (held_after answer a.out l.held)
    held (Ok (copying.Event slip)) told = ((copied_stood g l.reader i.behind c out slip told).0, i.stood)
    held (Ok copying.Empty) told = i.stood
    held (Ok copying.Moved) told = i.stood
    held (Err r) told = i.stood

    keeps_copy : Standing (after_copying l a)
    keeps_copy = record {
      turns = i.turns;
      state_is = i.state_is;
      calls_is = i.calls_is;
      behind = same.0;
      stood = held a.copied.answer refl;
      order = record {
        handed = i.order.handed;
        bytes = i.order.bytes;
        rising = i.order.rising;
        accepted = i.order.accepted;
        counted = same.1 ∙ i.order.counted;
        last = same.2 ∙ i.order.last;
      };
    }

  -- ---- a confirm

  module _ (l : Life) (i : Standing l) (c : Consumer) (h : Held) (t : Stood cpu (accepted_of l.calls) h) where
    abbrev confirmed_now : Answered Confirming
    confirmed_now = confirm_now l.state c l.reader h.slip

    abbrev page : Page
    page = page_of l.state.ring

    k : Ground cpu capacity l.calls l.state
    k = ground_of l i

    by : {x : Answered Confirming} → confirmed_now ≡ x → Standing (after_confirming l h.front x) → Standing (after_confirming l h.front confirmed_now)
    by e s = subst (λ (x : Answered Confirming). Standing (after_confirming l h.front x)) (sym e) s

    refused : Standing (after_confirming l h.front (not_confirmed l.reader refusal.Reader))
    refused = record {
      turns = i.turns;
      state_is = i.state_is;
      calls_is = i.calls_is;
      behind = i.behind;
      stood = i.stood;
      order = record {
        handed = i.order.handed;
        bytes = i.order.bytes;
        rising = i.order.rising;
        accepted = i.order.accepted;
        counted = i.order.counted;
        last = i.order.last;
      };
    }

    starts_over : l.reader.read_pos ≤ page.tail_pos → Standing (after_confirming l h.front (started_over page l.reader))
    starts_over below =
        let says = over_says page l.reader in
        record {
          turns = i.turns;
          state_is = i.state_is;
          calls_is = i.calls_is;
          behind = behind_tail k l.reader i.behind below;
          stood = i.stood;
          order = record {
            handed = i.order.handed;
            bytes = i.order.bytes;
            rising = i.order.rising;
            accepted = i.order.accepted;
            counted = says.handed_is ∙ i.order.counted;
            last = says.last_is ∙ i.order.last;
          };
        }

    moves_on : l.reader.last < h.slip.sequence → Standing (after_confirming l h.front (moved_on l.reader h.slip))
    moves_on above =
        let says = handed_says (h.slip.position + h.slip.size) h.slip.sequence l.reader in
        let events : List (Numbered Event) = i.order.handed in
        record {
          turns = i.turns;
          state_is = i.state_is;
          calls_is = i.calls_is;
          behind = behind_event k l.reader i.behind h t above;
          stood = i.stood;
          order = record {
            handed = events ++ (t.event ∷ []);
            bytes = ap₂ (λ (xs : List (List ℕ)) (x : List ℕ). xs ++ (x ∷ [])) i.order.bytes t.bytes ∙ sym (map_append (encode cpu) events (t.event ∷ []));
            rising = rising_one sequence_of 0 events t.event i.order.rising (omega (arith, above, i.order.last, t.numbered));
            accepted = each_one events (accepted_of l.calls) t.event i.order.accepted
                (record { older = t.older; younger = t.younger; split = t.split });
            counted = omega (arith, says, i.order.counted, length-append events (t.event ∷ []));
            last = omega (arith, says, t.numbered, last_one sequence_of 0 events t.event);
          };
        }

    pub keeps_confirm : Standing (after_confirming l h.front confirmed_now)
    keeps_confirm =
        let fits = right_of k l.reader i.behind in
        ⊎_elim
        (λ (e : wrong_slip page l.reader h.slip ≡ true).
        by (confirm_on_sound (consumed l.state.ring c.page) l.reader h.slip page (now_sound k c) ∙ slip_refused page l.reader h.slip fits e) refused)
        (λ (e : wrong_slip page l.reader h.slip ≡ false).
        let f = fitting page l.reader h.slip e in
        ⊎_elim
        (λ (there : page.tail_pos ≤ h.slip.position). by (on k h t l.reader fits c f.onward f.above there) (moves_on f.above))
        (λ (below : h.slip.position < page.tail_pos).
        by (over k h t l.reader fits c f.onward f.above below) (starts_over (omega (arith, below, f.onward))))
        (le_or_lt page.tail_pos h.slip.position))
        (either (wrong_slip page l.reader h.slip))

  -- ---- any acts, from attaching on

  keeps_first : (l : Life) → Standing l → (c : Consumer) (hs : List Held) → AllStood cpu (accepted_of l.calls) hs → Standing (confirm_first l c hs)
  keeps_first l i c [] t = i
  keeps_first l i c (h ∷ hs) t = keeps_confirm l i c h t.0

  keeps : (l : Life) (act : Act) → Standing l → Standing (acted l act)
  keeps l (Emit t) i = keeps_emissions l (t ∷ []) i
  keeps l (Copy c out) i = keeps_copy l i c out
  keeps l (Confirm c n) i = keeps_first l i c (drop n l.held) (all_stood_drop cpu (accepted_of l.calls) n l.held i.stood)

  pub keeps_all : (acts : List Act) (l : Life) → Standing l → Standing (through_acts l acts)
  unfolding through_acts
  keeps_all [] l i = i
  keeps_all (act ∷ acts) l i = keeps_all acts (acted l act) (keeps l act i)

  pub begins : (turns : List Turn) (c : Consumer) (any : Reader) → Standing (attached_after cpu buffer turns c any)
  begins turns c any =
      let g = ground cpu capacity narrow fit buffer long turns in
      let ring : List ℕ = (after created turns).ring in
      let is = ap (λ (a : Answered (Unit {0})). a.reader) (attach_done (consumed ring c.page) any (page_of ring) (now_sound g c)) in
      let says = attached_says (page_of ring) in
      record {
        turns = turns;
        state_is = refl;
        calls_is = refl;
        behind = subst (λ (r : Reader). Behind (accepted_of (made created turns)) r) (sym is)
            (record {
              passed = g.gone;
              ahead = g.kept;
              split = g.split;
              stands = says.read_pos_is ∙ g.tail_is;
              seen = omega (arith, says);
              counted = omega (arith, says);
            });
        stood = tt;
        order = record {
          handed = [];
          bytes = refl;
          rising = tt;
          accepted = tt;
          counted = ap (λ (r : Reader). r.handed) is ∙ says.handed_is;
          last = ap (λ (r : Reader). r.last) is ∙ says.last_is;
        };
      }
