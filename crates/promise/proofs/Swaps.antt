-- A swap of bytes that hold a ring: no refusal but 16 and 15 meets it, and then the new bytes hold what the swap without bytes leaves.
use Prim.Native.Nat.{ℕ, ◌+◌, ◌-◌, ◌^◌, ◌<◌}
use native.Mathlib.Omega.{arith}
use mathlib.Core.Path.{◌≡◌, refl, sym, ap, ap₂, ◌∙◌, subst}
use mathlib.Core.Logic.{◌≢◌}
use mathlib.Core.Bool.{Bool, true, false}
use mathlib.Core.List.{List, [], ◌∷◌, map}
use lib.ListN.{length, get_or, length-map, length-append}
use borrow.Author.Tests.{eqb-true, eqb-false}
use Rattle.std.specs.Prelude.{Result, Err}
use Rattle.table_rules.specs.Table.{first}
use Rattle.table_rules.specs.declared.Refusal.{Refusal}
use Rattle.table_rules.specs.declared.Refusal.TheVariants.{Size, Generation}
use Rattle.capacity_rules.specs.Capacity.{allowed}
use Rattle.capacity_rules.proofs.Laws.{allowed_range}
use Rattle.word_rules.specs.Number.{put}
use Rattle.page_rules.specs.Page.{page_of, positions}
use Rattle.page_rules.specs.Fresh.{blank}
use Rattle.page_rules.proofs.Facts.{Sound}
use Rattle.page_rules.specs.Wake.{need_wake, wakes}
use Rattle.page_rules.specs.declared.Page.{Page}
use Rattle.page_rules.proofs.Sound.{opens_sound}
use Rattle.region_rules.specs.Region.{store_at}
use Rattle.region_rules.proofs.Storing.{store_below}
use Rattle.event_rules.specs.Run.{joined}
use Rattle.look_rules.specs.Live.{live}
use Rattle.writer_rules.proofs.Laws.{counted, outstanding_is}
use Rattle.create_rules.specs.Create.{wrong_size}
use Rattle.create_rules.proofs.Laws.{right_size}
use Rattle.inspect_rules.specs.Inspect.{walked}
use Rattle.inspect_rules.specs.declared.Survey.{Survey}
use Rattle.swap_rules.specs.Swap.{AfterSwap, last_generation, exchanging, new_ring, retired, carried_over, exchange_on, exchange}
use Rattle.swap_rules.specs.declared.SwapOutcome.{SwapOutcome}
use Rattle.swap_rules.proofs.Facts.{Carriable}
use Rattle.swap_rules.proofs.Cases.{on_sound, size_refused, generation_refused, swaps as carries}
use Rattle.swap_rules.proofs.Rings.{Exchanged, swapped_sound}
use Rattle.run_rules.specs.Runs.{LongestRun, latest, older}
use Rattle.run_rules.proofs.Runs.{older_latest}
use Rattle.history.specs.Ring.{Numbered, Ring, bytes}
use Rattle.history.proofs.Ideal.{swap as idealSwap}
use Rattle.history.proofs.Swap.{swaps as idealSwaps}
use Rattle.promise.specs.Bytes.{Event, size, encode, State}
use Rattle.promise.specs.Holds.{Holds}
use Rattle.promise.proofs.Opened.{sound_of}
use Rattle.promise.specs.Swaps.{swap, swapped, keeping, SwapPromise, Swaps}
use Rattle.promise.proofs.Encoding.{encode_lengths, encode_latest, joined_length}
use Rattle.promise.proofs.Holds.{walked_kept, holds_surveyed}
use Rattle.promise.proofs.Layers.{Bytewise, put_small, all_small, notified_small, blank_small, number_small}
use Rattle.promise.proofs.Demand2.{demand2}

module _ (cpu before : ℕ) (s : State) (ring : Ring Event) (h : Holds cpu before s.ring s.writer ring) (t : List ℕ) where
  abbrev p : Page
  p = page_of s.ring

  abbrev after : AfterSwap
  after = exchange s.ring t s.writer

  -- a number of eight bytes
  holds_generation : p.generation < 2 ^ 64
  unfolding page_of
  holds_generation = omega (arith, number_small s.ring h.bytewise 32 8 (omega arith))

  -- ---- none of the refusals

  module _ (capacity : ℕ) (long : length t ≡ 8192 + capacity) (fit : allowed capacity ≡ true) (later : (page_of s.ring).generation < 2 ^ 64 - 1) where
    size_is : length t - 8192 ≡ capacity
    size_is = omega (arith, long)

    pub carriable : Carriable s.ring p t s.writer
    carriable = record {
      sound = sound_of h;
      counted = counted s.writer h.right;
      sized = ap allowed size_is ∙ fit;
      later = later;
      whole = ap (λ (v : Survey). v.stop) (holds_surveyed cpu before s.ring s.writer ring h);
      agreed = ap (λ (v : Survey). v.count) (holds_surveyed cpu before s.ring s.writer ring h)
          ∙ omega (arith, outstanding_is s.writer, h.last_is, h.dropped_is, h.overwritten_is, h.holding.counts);
    }

    pub exchanged : Exchanged s.ring p s.writer (length t - 8192) (latest length (length t - 8192) (walked s.ring p)) after
    exchanged = swapped_sound s.ring p t s.writer (omega (arith, h.named, h.narrow)) carriable

    kept_is : latest length (length t - 8192) (walked s.ring p) ≡ map (encode cpu) (latest (bytes size) capacity ring.kept)
    kept_is =
        ap₂ (λ (n : ℕ) (l : List (List ℕ)). latest length n l) size_is (walked_kept cpu before s.ring s.writer ring h)
        ∙ encode_latest cpu capacity ring.kept

    done : after ≡ carried_over s.ring p t s.writer
    done = carries s.ring t s.writer p carriable

    -- the new ring's pages are a blank ring's, but for the positions
    new_small : Bytewise after.new
    unfolding carried_over new_ring
    new_small i low =
        let kept : List ℕ = joined (latest length (length t - 8192) (walked s.ring p)) in
        let empty : List ℕ = blank p.cpu_id (length t - 8192) (p.generation + 1) in
        subst (λ (r : AfterSwap). get_or r.new i 0 < 256) (sym done)
        (all_small (store_at empty (length t - 8192) 0 kept) (positions (length kept) 0) i
        (omega (arith, store_below kept empty (length t - 8192) 0 i (omega arith), blank_small p.cpu_id (length t - 8192) (p.generation + 1) i)))

    -- the old one's are as they were, but for generation and counter
    old_small : Bytewise after.old
    unfolding carried_over retired
    old_small i low =
        subst (λ (r : AfterSwap). get_or r.old i 0 < 256) (sym done)
        (notified_small (put s.ring 32 8 (p.generation + 1)) i (put_small s.ring 32 8 (p.generation + 1) i (h.bytewise i low)))

    pub swapped_holds : Holds cpu capacity (swap s t).new (swap s t).answer.writer (idealSwap size capacity ring)
    swapped_holds =
        let says = exchanged.sound.says in
        let kept : List (Numbered Event) = latest (bytes size) capacity ring.kept in
        let moved = idealSwaps size before capacity ring h.holding in
        let bytes_are : joined (latest length (length t - 8192) (walked s.ring p)) ≡ joined (map (encode cpu) kept) = ap joined kept_is in
        let count : length (latest length (length t - 8192) (walked s.ring p)) ≡ length kept = ap length kept_is ∙ length-map kept (encode cpu) in
        record {
          narrow = h.narrow;
          opens = opens_sound _ _ (subst (Sound after.new) says exchanged.sound);
          bytewise = new_small;
          named = sym (ap (λ (q : Page). q.cpu_id) says) ∙ h.named;
          sized = sym (ap (λ (q : Page). q.capacity) says) ∙ size_is;
          tail_is = sym (ap (λ (q : Page). q.tail_pos) says);
          write_is = sym (ap (λ (q : Page). q.write_pos) says) ∙ omega (arith, ap length bytes_are, joined_length cpu kept);
          bytes_are = ap (live after.new) (sym says) ∙ exchanged.holds ∙ bytes_are;
          last_is = omega (arith, exchanged.last_same, h.last_is);
          dropped_is = omega (arith, exchanged.dropped_same, h.dropped_is);
          overwritten_is =
              omega (arith, exchanged.balanced, exchanged.dropped_same, count, moved.overwritten, h.last_is, h.dropped_is, h.holding.counts);
          right = exchanged.right;
          holding = moved.holding;
        }

    pub retired_holds : Holds cpu before (swap s t).old s.writer ring
    retired_holds =
        let says = exchanged.frozen.says in
        record {
          narrow = h.narrow;
          opens = opens_sound _ _ (subst (Sound after.old) says exchanged.frozen);
          bytewise = old_small;
          named = sym (ap (λ (q : Page). q.cpu_id) says) ∙ h.named;
          sized = sym (ap (λ (q : Page). q.capacity) says) ∙ h.sized;
          tail_is = sym (ap (λ (q : Page). q.tail_pos) says) ∙ h.tail_is;
          write_is = sym (ap (λ (q : Page). q.write_pos) says) ∙ h.write_is;
          bytes_are = ap (live after.old) (sym says) ∙ exchanged.unchanged ∙ h.bytes_are;
          last_is = h.last_is;
          dropped_is = h.dropped_is;
          overwritten_is = h.overwritten_is;
          right = h.right;
          holding = h.holding;
        }

    pub new_generation : (page_of (swap s t).new).generation ≡ (page_of s.ring).generation + 1
    new_generation = sym (ap (λ (q : Page). q.generation) exchanged.sound.says)

    pub old_generation : (page_of (swap s t).old).generation ≡ (page_of s.ring).generation + 1
    old_generation = sym (ap (λ (q : Page). q.generation) exchanged.frozen.says)

    -- what is kept by the swap without bytes, said by its length
    kept_ring : idealSwap size capacity ring ≡ keeping (latest (bytes size) capacity ring.kept) ring
    kept_ring =
        let gone : List (Numbered Event) = older (bytes size) capacity ring.kept in
        let kept : List (Numbered Event) = latest (bytes size) capacity ring.kept in
        let discarded : ring.overwritten + length gone ≡ (keeping kept ring).overwritten =
        omega (arith, ap length (older_latest (bytes size) capacity ring.kept), length-append gone kept) in
        λ i. record { kept = kept; tail = 0; last = ring.last; dropped = ring.dropped; overwritten = discarded i }

  -- ---- the two that are left

  -- where neither meets it
  module _ (sized : wrong_size t ≡ false) (left : last_generation p ≡ false) where
    abbrev room : ℕ
    room = length t - 8192

    fits : allowed room ≡ true
    fits = right_size t sized

    whole : length t ≡ 8192 + room
    whole = omega (arith, allowed_range room fits)

    later : p.generation < 2 ^ 64 - 1
    unfolding last_generation
    later = omega (arith, eqb-false p.generation (2 ^ 64 - 1) left, holds_generation)

    carried : after ≡ carried_over s.ring p t s.writer
    carried = done room whole fits later

    kept_promise : SwapPromise cpu before ring s t
    kept_promise =
        let kept : List (Numbered Event) = latest (bytes size) room ring.kept in
        let begins : Holds cpu room (swap s t).new (swap s t).answer.writer (keeping kept ring) =
        subst (Holds cpu room (swap s t).new (swap s t).answer.writer) (kept_ring room whole fits later) (swapped_holds room whole fits later) in
        record {
          kept = kept;
          longest = subst (λ (f : Numbered Event → ℕ). LongestRun f room ring.kept kept) (sym (encode_lengths cpu))
              (idealSwaps size before room ring h.holding).kept;
          begins = begins;
          goes_on = demand2 cpu room (keeping kept ring) (swapped s t) begins;
          new_generation = new_generation room whole fits later;
          old_generation = old_generation room whole fits later;
          counter = (exchanged room whole fits later).counter;
          frozen = retired_holds room whole fits later;
        }

  abbrev outcome : Result SwapOutcome Refusal
  outcome = (swap s t).answer.outcome

  opens : after ≡ exchange_on s.ring p t s.writer
  opens = on_sound s.ring t s.writer p (sound_of h)

  answers : outcome ≡ first ((wrong_size t, Size) ∷ (last_generation p, Generation) ∷ []) Err (exchanging (wakes (need_wake s.ring)))
  unfolding first last_generation carried_over
  answers = by (wrong_size t) (last_generation p) refl refl
    where
      by : (a b : Bool) → wrong_size t ≡ a → last_generation p ≡ b
          → outcome ≡ first ((a, Size) ∷ (b, Generation) ∷ []) Err (exchanging (wakes (need_wake s.ring)))
      by true b e f = ap (λ (a : AfterSwap). a.answer.outcome) (opens ∙ size_refused s.ring t s.writer p h.right e)
      by false true e f =
          ap (λ (a : AfterSwap). a.answer.outcome)
          (opens ∙ generation_refused s.ring t s.writer p h.right e (eqb-true p.generation (2 ^ 64 - 1) f))
      by false false e f = ap (λ (a : AfterSwap). a.answer.outcome) (carried e f)

  promises : ((r : Refusal) → outcome ≢ Err r) → SwapPromise cpu before ring s t
  unfolding first
  promises never = by (wrong_size t) (last_generation p) refl refl answers
    where
      by : (a b : Bool) → wrong_size t ≡ a → last_generation p ≡ b
          → outcome ≡ first ((a, Size) ∷ (b, Generation) ∷ []) Err (exchanging (wakes (need_wake s.ring)))
          → SwapPromise cpu before ring s t
      by true b e f is = absurd (never Size is)
      by false true e f is = absurd (never Generation is)
      by false false e f is = kept_promise e f

pub swaps : Swaps
swaps cpu before ring s h t = (answers cpu before s ring h t, promises cpu before s ring h t)
