-- The second demand of the bytes: call by call they follow the ring without bytes, whose promise is proved.
use Prim.Native.Nat.{ℕ, ◌+◌, ◌≤◌}
use native.Mathlib.Omega.{arith}
use mathlib.Core.Path.{◌≡◌, refl, sym, ap, ap₂, ◌∙◌, subst, subst₂}
use mathlib.Core.Bool.{Bool}
use mathlib.Core.List.{List, [], ◌∷◌, ◌++◌, map, append-nil}
use lib.ListN.{length}
use Rattle.page_rules.specs.Page.{page_of}
use Rattle.page_rules.specs.Wake.{futex_counter, wakes}
use Rattle.page_rules.proofs.Sound.{sound_length}
use Rattle.event_rules.specs.Run.{joined}
use Rattle.run_rules.specs.Runs.{total, LongestRun}
use Rattle.history.specs.Ring.{Numbered, Ring, write}
use Rattle.history.proofs.Ideal.{given, emit}
use Rattle.history.specs.Calls.{Call, uses, accepts, used, dropped_of, accepted}
use Rattle.history.proofs.Ideal.{call, calls}
use Rattle.history.proofs.Ideal.{after as afterCalls}
use Rattle.history.proofs.Demand2.{one2, demand2 as abstract2}
use Rattle.promise.specs.Bytes.{Event, size, taken, encode, State, Turn, consumed, uncalled, left}
use Rattle.promise.specs.Bytes.{Made, made_by, made, after_by, after, answer_of, call_of, accepted_of, raises, outcomes_of}
use Rattle.promise.specs.Holds.{Holds}
use Rattle.promise.proofs.Opened.{sound_of, emitted}
use Rattle.promise.specs.Demand2.{waiting, Exact, shown, Promise, Demand2, Undisturbed2}
use Rattle.promise.proofs.Encoding.{encode_lengths, joined_length, joined_both}
use Rattle.promise.proofs.Given.{given_exactly}
use Rattle.promise.proofs.Consumer.{elsewhere_number, consumed_elsewhere, consumed_holds, consumed_wake}
use Rattle.promise.proofs.Layers.{layer, layer_length, layer_consumed, layer_none, layers}
use Rattle.promise.proofs.Holds.{holds_inspected}
use Rattle.promise.proofs.Step.{Stepped, step}

-- ---- a history, call by call

abbrev events : List Turn → List Event
events turns = map (λ (t : Turn). t.event) turns

module _ (cpu capacity : ℕ) where
  abbrev next : Ring Event → Event → Ring Event
  next ring e = (emit size capacity ring e).next

  pub turn_step : (s : State) (ring : Ring Event) (t : Turn) → Holds cpu capacity s.ring s.writer ring
      → Stepped cpu capacity (consumed s.ring t.page) (waiting t) ring t.event (emitted s t) (emit size capacity ring t.event)
  unfolding page_of
  turn_step s ring t h =
      subst (λ (b : Bool). Stepped cpu capacity (consumed s.ring t.page) b ring t.event (emitted s t) (emit size capacity ring t.event))
      (ap wakes (consumed_wake s.ring t.page t.whole (omega (arith, sound_length s.ring (page_of s.ring) (sound_of h)))))
      (step cpu capacity (consumed s.ring t.page) s.writer ring t.event
      (consumed_holds cpu capacity s.ring t.page s.writer ring t.whole h))

  abbrev made_one : State → Turn → Made
  made_one s t = record { turn = t; answer = (emitted s t).answer }

  same_call : (s : State) (ring : Ring Event) (t : Turn) → Holds cpu capacity s.ring s.writer ring
      → call_of (made_one s t) ≡ call given (emit size capacity) ring t.event
  same_call s ring t h =
      let a = turn_step s ring t h in
      λ i. record { event = t.event; answer = a.answer i; sequence = a.holds.last_is i }

  abbrev accepted_one : State → Turn → List (Numbered Event)
  accepted_one s t = accepts (answer_of (emitted s t).answer.outcome) (record { sequence = (emitted s t).answer.writer.last; event = t.event })

  -- how the write position goes on
  write_on : (s : State) (ring : Ring Event) (t : Turn) → Holds cpu capacity s.ring s.writer ring
      → write size (next ring t.event) ≡ write size ring + taken (accepted_of (made_one s t ∷ []))
  write_on s ring t h =
      (one2 size capacity ring t.event h.holding).written
      ∙ ap (λ (k : Call Event). write size ring + taken (accepted (k ∷ []))) (sym (same_call s ring t h))

  -- the bytes after some calls, of those there would be without them
  abbrev Leaves : State → ℕ → List ℕ → List Made → Type 0
  Leaves end from without ms =
      end.ring
      ≡ layer capacity from without (joined (map (encode cpu) (accepted_of ms))) (page_of end.ring).write_pos (page_of end.ring).tail_pos
      (futex_counter without + total raises (outcomes_of ms))

  -- the same calls, and after them the bytes hold the ring
  pub same_calls : (turns : List Turn) (s : State) (ring : Ring Event) → Holds cpu capacity s.ring s.writer ring
      → (map call_of (made s turns) ≡ calls given (emit size capacity) ring (events turns))
      × Holds cpu capacity (after s turns).ring (after s turns).writer (afterCalls (emit size capacity) ring (events turns))
      × Leaves (after s turns) (write size ring) (uncalled s.ring turns) (made s turns)
  unfolding made_by after_by calls afterCalls uncalled joined
  same_calls [] s ring h = (refl, h, layer_none capacity (write size ring) s.ring h.bytewise)
  same_calls (t ∷ ts) s ring h =
      let a = turn_step s ring t h in
      let rest = same_calls ts (left (emitted s t)) (next ring t.event) a.holds in
      let now : List ℕ = consumed s.ring t.page in
      let end : State = after (left (emitted s t)) ts in
      let new : List (Numbered Event) = accepted_one s t in
      let later : List Made = made (left (emitted s t)) ts in
      let behind : write size (next ring t.event) ≡ write size ring + length (joined (map (encode cpu) new)) =
      omega (arith, write_on s ring t h, joined_length cpu new, ap taken (append-nil new)) in (
        ap₂ (λ (k : Call Event) (ks : List (Call Event)). k ∷ ks) (same_call s ring t h) rest.0,
        rest.1,
        layers ts capacity (write size ring) (write size (next ring t.event)) now
            (joined (map (encode cpu) new)) (joined (map (encode cpu) (accepted_of later)))
            (page_of (emitted s t).ring).write_pos (page_of (emitted s t).ring).tail_pos (raises (emitted s t).answer.outcome)
            (page_of end.ring).write_pos (page_of end.ring).tail_pos (total raises (outcomes_of later))
            (omega (arith, sound_length now (page_of now) (sound_of (consumed_holds cpu capacity s.ring t.page s.writer ring t.whole h))))
            behind (emitted s t).ring end.ring a.leaves rest.2
            ∙ ap (λ (bytes : List ℕ). layer capacity (write size ring) (uncalled now ts) bytes
            (page_of end.ring).write_pos (page_of end.ring).tail_pos
            (futex_counter (uncalled now ts) + (raises (emitted s t).answer.outcome + total raises (outcomes_of later))))
            (sym (joined_both cpu new (accepted_of later))),
      )

  exact : (turns : List Turn) (s : State) (ring : Ring Event) → Holds cpu capacity s.ring s.writer ring
      → Exact capacity ring.last (write size ring) (made s turns)
  unfolding made_by
  exact [] s ring h = tt
  exact (t ∷ ts) s ring h =
      let a = turn_step s ring t h in
      let one = one2 size capacity ring t.event h.holding in
      let kind : uses (answer_of (emitted s t).answer.outcome) ≡ uses (emit size capacity ring t.event).answer = ap uses a.answer in (
        given_exactly capacity ring.last (write size ring) (size t.event) (waiting t) (emitted s t).answer.outcome a.given,
        omega (arith, a.holds.last_is, one.last, kind),
        subst₂ (λ (n m : ℕ). Exact capacity n m (made (left (emitted s t)) ts)) (sym a.holds.last_is) (write_on s ring t h)
            (exact ts (left (emitted s t)) (next ring t.event) a.holds),
      )

-- ---- the promise

-- of bytes and a record that hold a ring of which it holds
promised : (cpu capacity : ℕ) (beginning : Ring Event) (without : List ℕ) (calls : List Made) (end : State) (ring : Ring Event)
    → Holds cpu capacity end.ring end.writer ring
    → LongestRun (λ (x : Numbered Event). length (encode cpu x)) capacity (beginning.kept ++ accepted_of calls) ring.kept
    → Exact capacity beginning.last (write size beginning) calls
    → ring.last ≡ beginning.last + used (map call_of calls)
    → ring.dropped ≡ beginning.dropped + dropped_of (map call_of calls)
    → write size ring ≡ write size beginning + taken (accepted_of calls)
    → Leaves cpu capacity end (write size beginning) without calls
    → Promise cpu capacity beginning without calls end
promised cpu capacity beginning without calls end ring h longest exact last dropped written leaves = record {
  kept = ring.kept;
  bytes = h.bytes_are;
  longest = longest;
  exact = exact;
  inspection = holds_inspected cpu capacity end.ring end.writer ring h;
  counts = omega (arith, h.holding.counts, dropped, h.last_is, h.overwritten_is);
  last = h.last_is ∙ last;
  dropped = h.dropped_is ∙ dropped;
  written = h.write_is ∙ written;
  ring = leaves;
  holds = subst (λ (r : Ring Event). Holds cpu capacity end.ring end.writer r) shows h;
}
  where
    shows : ring ≡ shown ring.kept end
    shows = λ i. record {
      kept = ring.kept;
      tail = sym h.tail_is i;
      last = sym h.last_is i;
      dropped = sym h.dropped_is i;
      overwritten = sym h.overwritten_is i;
    }

pub demand2 : Demand2
demand2 cpu capacity beginning s h turns =
    let same = same_calls cpu capacity turns s beginning h in
    let ring : Ring Event = afterCalls (emit size capacity) beginning (events turns) in
    let promise = abstract2 size capacity beginning h.holding (events turns) in
    promised cpu capacity beginning (uncalled s.ring turns) (made s turns) (after s turns) ring same.1
    (subst₂ (λ (f : Numbered Event → ℕ) (ks : List (Call Event)). LongestRun f capacity (beginning.kept ++ accepted ks) ring.kept)
    (sym (encode_lengths cpu)) (sym same.0) promise.kept)
    (exact cpu capacity turns s beginning h)
    (promise.last ∙ ap (λ (ks : List (Call Event)). beginning.last + used ks) (sym same.0))
    (promise.dropped ∙ ap (λ (ks : List (Call Event)). beginning.dropped + dropped_of ks) (sym same.0))
    (promise.written ∙ ap (λ (ks : List (Call Event)). write size beginning + taken (accepted ks)) (sym same.0))
    same.2

pub undisturbed2 : Undisturbed2
unfolding page_of
undisturbed2 cpu capacity beginning without calls end p page whole =
    let events : List ℕ = joined (map (encode cpu) (accepted_of calls)) in
    let w : ℕ = (page_of end.ring).write_pos in
    let t : ℕ = (page_of end.ring).tail_pos in
    let n : ℕ = futex_counter without + total raises (outcomes_of calls) in
    let long : 8192 ≤ length end.ring = omega (arith, sound_length end.ring (page_of end.ring) (sound_of p.holds)) in
    let enough : 8192 ≤ length without =
    omega (arith, ap length p.ring, layer_length capacity (write size beginning) without events w t n) in
    let same = elsewhere_number end.ring (consumed end.ring page) (consumed_elsewhere end.ring page whole long) in
    let counter : futex_counter (consumed without page) ≡ futex_counter without =
    elsewhere_number without (consumed without page) (consumed_elsewhere without page whole enough) 128 4 (omega arith) in
    promised cpu capacity beginning (consumed without page) calls (record { ring = consumed end.ring page; writer = end.writer }) (shown p.kept end)
    (consumed_holds cpu capacity end.ring page end.writer (shown p.kept end) whole p.holds)
    p.longest p.exact p.last p.dropped (sym p.holds.write_is ∙ p.written)
    (ap (λ (r : List ℕ). consumed r page) p.ring ∙ layer_consumed capacity (write size beginning) without events w t n page enough whole
    ∙ (λ i. layer capacity (write size beginning) (consumed without page) events (sym (same 64 8 (omega arith)) i) (sym (same 72 8 (omega arith)) i)
    (sym counter i + total raises (outcomes_of calls))))
