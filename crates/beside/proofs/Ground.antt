-- What a history of calls on a fresh ring leaves, by the second demand: of the events accepted those in front have gone, and the tail counts their
-- bytes; the rest is in the ring.
use Prim.Native.Nat.{ℕ, ◌+◌, ◌^◌, ◌≤◌, ◌<◌}
use native.Mathlib.Omega.{arith}
use mathlib.Core.Path.{◌≡◌, refl, sym, ap, ◌∙◌, subst}
use mathlib.Core.Bool.{true}
use mathlib.Core.List.{List, [], ◌∷◌, ◌++◌, append_assoc}
use mathlib.Core.List.{tail as list-tail}
use lib.ListN.{length, length-append}
use Rattle.run_rules.specs.Runs.{Rising, LongestRun, EndPart, total, latest}
use Rattle.run_rules.proofs.Runs.{total_append, longest_latest, latest_append, latest_ends}
use Rattle.capacity_rules.specs.Capacity.{allowed}
use Rattle.page_rules.specs.Page.{page_of}
use Rattle.history.specs.Ring.{sequence_of, Numbered, bytes}
use Rattle.promise.specs.Bytes.{Event, size, State, Turn, Made, made, after, accepted_of}
use Rattle.promise.specs.Holds.{Holds}
use Rattle.promise.specs.Demand2.{shown, created_state}
use Rattle.promise.proofs.Created.{fresh2}
use Rattle.promise.proofs.Encoding.{encode_lengths}
use Rattle.beside.specs.Beside.{Among, InRing}
use Rattle.beside.proofs.Parts.{same_head, prefixes, same_place}
use Rattle.beside.proofs.Accepted.{accepted_rising, Small, accepted_small, last_fits, accepted_more}

abbrev pub bytes_of : List (Numbered Event) → ℕ
bytes_of events = total (bytes size) events

pub positive : (x : Numbered Event) → 0 < bytes size x
positive x = omega arith

pub record Ground (cpu capacity : ℕ) (calls : List Made) (s : State) : Type 0 where
  pub gone : List (Numbered Event)
  pub kept : List (Numbered Event)
  pub split : accepted_of calls ≡ gone ++ kept
  pub ring : InRing cpu capacity calls s.ring kept
  pub rising : Rising sequence_of 0 (accepted_of calls)
  pub small : Small capacity (accepted_of calls)
  pub holds : Holds cpu capacity s.ring s.writer (shown kept s)
  pub tail_is : (page_of s.ring).tail_pos ≡ bytes_of gone
  pub write_is : (page_of s.ring).write_pos ≡ bytes_of (accepted_of calls)

pub ground : (cpu capacity : ℕ) → cpu < 2 ^ 16 → allowed capacity ≡ true → (buffer : List ℕ) → length buffer ≡ 8192 + capacity → (turns : List Turn)
    → Ground cpu capacity (made (created_state cpu buffer) turns) (after (created_state cpu buffer) turns)
ground cpu capacity narrow fit buffer long turns =
    let promise = (fresh2 cpu capacity narrow fit buffer long turns).1 in
    let end = promise.longest.end in
    record {
      gone = end.front;
      kept = promise.kept;
      split = end.split;
      ring = record { bytes = promise.bytes; longest = promise.longest };
      rising = accepted_rising capacity 0 0 (made (created_state cpu buffer) turns) promise.exact;
      small = accepted_small capacity 0 0 (made (created_state cpu buffer) turns) promise.exact;
      holds = promise.holds;
      tail_is = omega (
        arith,
        promise.holds.write_is,
        promise.written,
        ap (total (bytes size)) end.split,
        total_append (bytes size) end.front promise.kept,
      );
      write_is = omega (arith, promise.written);
    }

module _ {cpu capacity : ℕ} {calls : List Made} {s : State} (g : Ground cpu capacity calls s) where
  abbrev all : List (Numbered Event)
  all = accepted_of calls

  -- an event at or above the tail is in the ring, and those below it have gone
  pub inside : (o : List (Numbered Event)) (x : Numbered Event) (y : List (Numbered Event)) → accepted_of calls ≡ o ++ (x ∷ y)
      → (page_of s.ring).tail_pos ≤ bytes_of o
      → (f : List (Numbered Event)) × (o ≡ g.gone ++ f) × (g.kept ≡ f ++ (x ∷ y))
  inside o x y cut h = prefixes (bytes size) positive g.gone g.kept o (x ∷ y) (sym g.split ∙ cut) (omega (arith, h, g.tail_is))

  pub outside : (o : List (Numbered Event)) (x : Numbered Event) (y : List (Numbered Event)) → accepted_of calls ≡ o ++ (x ∷ y)
      → Among x g.kept → (page_of s.ring).tail_pos ≤ bytes_of o
  outside o x y cut a =
      let there : all ≡ (g.gone ++ a.older) ++ (x ∷ a.younger) =
      g.split ∙ ap (λ (l : List (Numbered Event)). g.gone ++ l) a.split ∙ sym (append_assoc g.gone a.older (x ∷ a.younger)) in
      let same = same_place sequence_of 0 o y (g.gone ++ a.older) a.younger x x
      (subst (λ (l : List (Numbered Event)). Rising sequence_of 0 l) cut g.rising) (sym cut ∙ there) refl in
      omega (arith, g.tail_is, ap (total (bytes size)) same.0, total_append (bytes size) g.gone a.older)

  -- an event that has gone stands among those that have, and every one in the ring is above it
  pub behind : (o : List (Numbered Event)) (x : Numbered Event) (y : List (Numbered Event)) → accepted_of calls ≡ o ++ (x ∷ y)
      → bytes_of o < (page_of s.ring).tail_pos
      → (f : List (Numbered Event)) × (g.gone ≡ o ++ (x ∷ f)) × (y ≡ f ++ g.kept)
  behind o x y cut h = by cuts.0 cuts.1 cuts.2
    where
      cuts : (f : List (Numbered Event)) × (g.gone ≡ o ++ f) × (x ∷ y ≡ f ++ g.kept)
      cuts = prefixes (bytes size) positive o (x ∷ y) g.gone g.kept (sym cut ∙ g.split) (omega (arith, h, g.tail_is))

      by : (f : List (Numbered Event)) → g.gone ≡ o ++ f → x ∷ y ≡ f ++ g.kept
          → (f : List (Numbered Event)) × (g.gone ≡ o ++ (x ∷ f)) × (y ≡ f ++ g.kept)
      by [] here rest = absurd (omega (arith, h, g.tail_is, ap (total (bytes size)) here, total_append (bytes size) o []))
      by (z ∷ f) here rest =
          let first : x ≡ z = same_head rest in
          (f, here ∙ ap (λ (v : Numbered Event). o ++ (v ∷ f)) (sym first), ap list-tail rest)

-- once one event was accepted, one is in the ring
pub some_kept : {cpu capacity : ℕ} {calls : List Made} {s : State} (g : Ground cpu capacity calls s) (x : Numbered Event) → Among x (accepted_of calls)
    → (oldest : Numbered Event) × (younger : List (Numbered Event)) × (g.kept ≡ oldest ∷ younger)
some_kept {cpu = cpu} {capacity = capacity} {calls = calls} g x a = by g.kept refl (accepted_of calls) refl
  where
    by : (kept : List (Numbered Event)) → g.kept ≡ kept → (all : List (Numbered Event)) → accepted_of calls ≡ all
        → (oldest : Numbered Event) × (younger : List (Numbered Event)) × (g.kept ≡ oldest ∷ younger)
    by (y ∷ ys) is all every = (y, ys, is)
    by [] is [] every = absurd (omega (arith, ap length (sym every ∙ a.split), length-append a.older (x ∷ a.younger)))
    by [] is (z ∷ zs) every =
        let part = last_fits capacity z zs (subst (Small capacity) every g.small) in
        let over = g.ring.longest.longer part.0 (subst (EndPart part.0) (sym every) part.1) (omega (arith, ap length is, part.2)) in
        absurd (omega (arith, part.3, over, ap (λ (f : Numbered Event → ℕ). total f part.0) (encode_lengths cpu)))

-- the tail never goes back
pub tail_rises : {cpu capacity : ℕ} {calls : List Made} {s t : State} (g : Ground cpu capacity calls s) (later : List Made)
    (h : Ground cpu capacity (calls ++ later) t) → (page_of s.ring).tail_pos ≤ (page_of t.ring).tail_pos
tail_rises {cpu = cpu} {capacity = capacity} {calls = calls} g later h =
    let new : List (Numbered Event) = accepted_of later in
    let room : List (Numbered Event) → List (Numbered Event) = latest (bytes size) capacity in
    let more : accepted_of (calls ++ later) ≡ accepted_of calls ++ new = accepted_more calls later in
    let kept : g.kept ≡ room (accepted_of calls) = longest_latest (bytes size) capacity (accepted_of calls) g.kept
    (subst (λ (f : Numbered Event → ℕ). LongestRun f capacity (accepted_of calls) g.kept) (encode_lengths cpu) g.ring.longest) in
    let still : h.kept ≡ room (g.kept ++ new) =
    longest_latest (bytes size) capacity (accepted_of (calls ++ later)) h.kept
    (subst (λ (f : Numbered Event → ℕ). LongestRun f capacity (accepted_of (calls ++ later)) h.kept) (encode_lengths cpu) h.ring.longest)
    ∙ ap room more
    ∙ sym (latest_append (bytes size) capacity (accepted_of calls) new)
    ∙ ap (λ (l : List (Numbered Event)). room (l ++ new)) (sym kept) in
    let end = latest_ends (bytes size) capacity (g.kept ++ new) in
    omega (
      arith,
      g.tail_is,
      h.tail_is,
      ap (total (bytes size)) g.split,
      total_append (bytes size) g.gone g.kept,
      ap (total (bytes size)) h.split,
      total_append (bytes size) h.gone h.kept,
      ap (total (bytes size)) more,
      total_append (bytes size) (accepted_of calls) new,
      ap (total (bytes size)) still,
      ap (total (bytes size)) end.split,
      total_append (bytes size) end.front (room (g.kept ++ new)),
      total_append (bytes size) g.kept new,
    )
