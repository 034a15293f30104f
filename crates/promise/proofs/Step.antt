-- One emission on bytes that hold a ring: it answers as the ring without bytes does, and what it leaves holds what that one leaves.
use Prim.Native.Nat.{ℕ, ◌+◌, ◌-◌, ◌/◌, ◌%◌, ◌^◌, ◌≤◌, ◌<◌}
use native.Mathlib.Omega.{arith}
use mathlib.Core.Path.{◌≡◌, refl, sym, ap, ap₂, ◌∙◌, subst}
use mathlib.Core.Logic.{inl, inr, ◌≢◌}
use mathlib.Core.Bool.{Bool, true, false, cond}
use mathlib.Core.List.{List, [], ◌++◌, map, append-nil}
use lib.ListN.{length, drop}
use Rattle.table_rules.specs.declared.Refusal.TheVariants.{Spent, Far}
use Rattle.word_rules.specs.Number.{put}
use Rattle.word_rules.specs.Fields.{put_all}
use Rattle.word_rules.proofs.Fields.{beside}
use Rattle.page_rules.specs.Page.{page_of, positions}
use Rattle.page_rules.specs.Wake.{futex_counter, need_wake, wakes, raised, notified}
use Rattle.page_rules.specs.declared.Page.{Page}
use Rattle.page_rules.proofs.Sound.{opens_sound}
use Rattle.region_rules.specs.Region.{store_at}
use Rattle.region_rules.proofs.Storing.{store_below, store_number}
use Rattle.event_rules.specs.Event.{event_bytes}
use Rattle.event_rules.specs.Run.{joined}
use Rattle.event_rules.specs.Walk.{Room, walk_from}
use Rattle.event_rules.proofs.Facts.{aimed, heading}
use Rattle.look_rules.specs.Live.{live}
use Rattle.writer_rules.specs.Writer.{outstanding}
use Rattle.writer_rules.specs.declared.Writer.{Writer}
use Rattle.writer_rules.proofs.Laws.{dropped_numbers, dropped_right, accepted_numbers, accepted_right, outstanding_is}
use Rattle.emit_rules.specs.Emit.{AfterEmit, refuse, dropped, event_of, stored, accepting, acceptance, emitted_on, emission}
use Rattle.emit_rules.proofs.Laws.{event_length, stored_wake}
use Rattle.emit_rules.proofs.Cases.{on_sound, spent, is_dropped, too_far_lem, is_placed, agreed}
use Rattle.run_rules.specs.Runs.{total, latest, older}
use Rattle.history.specs.Ring.{Numbered, Ring, Answer, Done, Dropped, Refused, bytes, write}
use Rattle.history.proofs.Ideal.{Emitted, dropping, new, storing, emit}
use Rattle.history.specs.Holding.{Holding}
use Rattle.history.specs.Calls.{accepts}
use Rattle.run_rules.proofs.Runs.{total_append, latest_room, older_latest}
use Rattle.history.proofs.Emission.{emit_cases, passed_counted, storing_write}
use Rattle.history.proofs.Demand2.{one2}
use Rattle.promise.specs.Bytes.{Event, size, encode, label_of, answer_of, raises}
use Rattle.promise.specs.Holds.{Holds}
use Rattle.promise.proofs.Opened.{sound_of}
use Rattle.promise.specs.Demand2.{Acceptable, Given}
use Rattle.promise.proofs.Encoding.{joined_one, drop_older, walk_older}
use Rattle.emit_rules.proofs.Stored.{stored_cpu, stored_capacity, stored_write, stored_tail, stored_sound, stored_live}
use Rattle.promise.proofs.Layers.{Bytewise, layer, layer_none, notified_small, all_small, put_own, number_small}
use Rattle.promise.proofs.Holds.{holds_whole}

-- the bytes that a call adds to the data
abbrev pub added : ℕ → Event → AfterEmit → List ℕ
added cpu e a = joined (map (encode cpu) (accepts (answer_of a.answer.outcome) (record { sequence = a.answer.writer.last; event = e })))

-- what an emission leaves of the bytes s, beside what it leaves on the ring without bytes; `waits` says whether the consumer does
pub record Stepped (cpu capacity : ℕ) (s : List ℕ) (waits : Bool) (ring : Ring Event) (e : Event) (a : AfterEmit) (m : Emitted (Ring Event))
    : Type 0 where
  pub answer : answer_of a.answer.outcome ≡ m.answer
  pub given : Given capacity ring.last (write size ring) (size e) waits a.answer.outcome
  pub holds : Holds cpu capacity a.ring a.answer.writer m.next
  pub leaves : a.ring
      ≡ layer capacity (write size ring) s (added cpu e a) (page_of a.ring).write_pos (page_of a.ring).tail_pos
      (futex_counter s + raises a.answer.outcome)

-- Wake exactly if the consumer waits
told_answer : (b : Bool) → answer_of (accepting b) ≡ Done
told_answer true = refl
told_answer false = refl

told_given : (capacity last write size : ℕ) (b : Bool) → Acceptable capacity last write size → Given capacity last write size b (accepting b)
told_given capacity last write size true h = (refl, h)
told_given capacity last write size false h = (refl, h)

module _ (cpu capacity : ℕ) (s : List ℕ) (w : Writer) (ring : Ring Event) (e : Event) (h : Holds cpu capacity s w ring) where
  abbrev p : Page
  p = page_of s

  abbrev waits : Bool
  waits = wakes (need_wake s)

  abbrev goes : AfterEmit → Emitted (Ring Event) → Type 0
  goes a m = Stepped cpu capacity s waits ring e a m

  -- ---- refused, and dropped

  unchanged : s ≡ layer capacity (write size ring) s (joined []) p.write_pos p.tail_pos (futex_counter s + 0)
  unfolding joined
  unchanged = layer_none capacity (write size ring) s h.bytewise

  goes_spent : ring.last ≡ 2 ^ 64 - 1 → goes (refuse s w Spent) (record { answer = Refused 8; next = ring })
  goes_spent none = record { answer = refl; given = inl (refl, none); holds = h; leaves = unchanged }

  goes_far : ring.last ≢ 2 ^ 64 - 1 → size e ≤ capacity / 2 → 2 ^ 62 < write size ring + size e
      → goes (refuse s w Far) (record { answer = Refused 9; next = ring })
  goes_far some half far = record { answer = refl; given = inr (refl, some, omega arith, omega arith); holds = h; leaves = unchanged }

  goes_dropped : ring.last ≢ 2 ^ 64 - 1 → capacity / 2 < size e → Holding size capacity (dropping size ring)
      → goes (dropped s w (label_of e)) (record { answer = Dropped; next = dropping size ring })
  unfolding dropped
  goes_dropped some above next = record {
    answer = refl;
    given = (some, omega arith);
    holds = record {
      narrow = h.narrow;
      opens = opens_sound _ _ (sound_of h);
      bytewise = h.bytewise;
      named = h.named;
      sized = h.sized;
      tail_is = h.tail_is;
      write_is = h.write_is;
      bytes_are = h.bytes_are;
      last_is = (dropped_numbers w e.class).last_is ∙ ap (λ (n : ℕ). n + 1) h.last_is;
      dropped_is = (dropped_numbers w e.class).dropped_is ∙ ap (λ (n : ℕ). n + 1) h.dropped_is;
      overwritten_is = (dropped_numbers w e.class).overwritten_is ∙ h.overwritten_is;
      right = dropped_right w e.class h.right;
      holding = next;
    };
    leaves = unchanged;
  }

  -- ---- stored

  abbrev event : List ℕ
  event = event_of p w (label_of e) e.payload

  -- the bytes stored are the event's, under the next sequence
  event_is : event ≡ encode cpu (new ring e)
  unfolding event_of encode
  event_is =
      ap₂ (λ (n m : ℕ). event_bytes (heading n (m + 1) e.timestamp e.type e.class) e.payload) h.named h.last_is

  abbrev gone : List (Numbered Event)
  gone = older (bytes size) (capacity - size e) ring.kept

  -- they are among those that the record says the ring holds, so 11 doesn't meet the emission
  gone_agreed : w.overwritten + length gone ≤ w.last - w.dropped
  gone_agreed = omega (arith, passed_counted size capacity (capacity - size e) ring h.holding, h.overwritten_is, h.last_is, h.dropped_is)

  gone_held : length gone ≤ outstanding w
  gone_held = omega (arith, gone_agreed, outstanding_is w)

  abbrev rest : List (Numbered Event)
  rest = latest (bytes size) (capacity - size e) ring.kept

  module _ (some : ring.last ≢ 2 ^ 64 - 1) (half : size e ≤ capacity / 2) (near : write size ring + size e ≤ 2 ^ 62) where
    abbrev there : ℕ
    there = ring.tail + total (bytes size) gone

    walk_ends : walk_from (aimed p.cpu_id p.capacity (32 + length e.payload)) (live s p) p.tail_pos 0 ≡ Room there (length gone)
    walk_ends =
        (λ i. walk_from (aimed (h.named i) (h.sized i) (size e)) (h.bytes_are i) (h.tail_is i) 0)
        ∙ walk_older cpu capacity (size e) (omega arith) ring.kept (holds_whole cpu capacity s w ring h).0.0 ring.tail

    -- what the walk leaves fits with the event
    parts : total (bytes size) ring.kept ≡ total (bytes size) gone + total (bytes size) rest
    parts = ap (total (bytes size)) (older_latest (bytes size) (capacity - size e) ring.kept) ∙ total_append (bytes size) gone rest

    long : length event ≡ size e
    long = event_length p w (label_of e) e.payload

    far_enough : p.write_pos + length event ≤ 2 ^ 62
    far_enough = omega (arith, h.write_is, long)

    onward : p.tail_pos ≤ there
    onward = omega (arith, h.tail_is)

    not_past : there ≤ p.write_pos
    not_past = omega (arith, h.write_is, parts)

    fits : p.write_pos + length event ≤ there + p.capacity
    fits = omega (arith, h.write_is, h.sized, parts, long, latest_room (bytes size) (capacity - size e) ring.kept)

    abbrev moved : List ℕ
    moved = stored s p event there

    moved_small : Bytewise moved
    unfolding stored
    moved_small i low = all_small (store_at s p.capacity p.write_pos event) (positions (p.write_pos + length event) there) i
        (omega (arith, store_below event s p.capacity p.write_pos i (omega arith), h.bytewise i low))

    moved_counter : futex_counter moved ≡ futex_counter s
    unfolding stored
    moved_counter =
        beside (store_at s p.capacity p.write_pos event) (positions (p.write_pos + length event) there) 128 4 tt
        ∙ store_number event s p.capacity p.write_pos 128 4 (omega arith)

    -- the counter goes up where the consumer waits
    counts_on : (b : Bool) → cond b (raised moved) moved ≡ put moved 128 4 ((futex_counter s + raises (accepting b)) % 2 ^ 32)
    unfolding raised
    counts_on true = ap (λ (n : ℕ). put moved 128 4 ((n + 1) % 2 ^ 32)) moved_counter
    counts_on false =
        let same : (futex_counter s + 0) % 2 ^ 32 ≡ futex_counter moved =
        omega (arith, moved_counter, number_small moved moved_small 128 4 (omega arith)) in
        sym (ap (put moved 128 4) same ∙ put_own moved moved_small 128 4 (omega arith))

    told_on : notified moved ≡ put moved 128 4 ((futex_counter s + raises (accepting waits)) % 2 ^ 32)
    unfolding notified
    told_on = ap (λ (n : ℕ). cond (wakes n) (raised moved) moved) (stored_wake s p event there) ∙ counts_on waits

    bytes_added : event ≡ added cpu e (acceptance s p w event there (length gone))
    unfolding acceptance joined
    bytes_added =
        let x : Numbered Event = record { sequence = w.last + 1; event = e } in
        event_is
        ∙ ap (λ (n : ℕ). encode cpu (record { sequence = n + 1; event = e })) (sym h.last_is)
        ∙ sym (append-nil (encode cpu x))
        ∙ ap₂ (λ (a : Answer) (n : ℕ). joined (map (encode cpu) (accepts a (record { sequence = n; event = e }))))
        (sym (told_answer waits)) (sym (accepted_numbers w (length gone)).last_is)

    left_by : notified moved
        ≡ layer capacity (write size ring) s (added cpu e (acceptance s p w event there (length gone))) (page_of (notified moved)).write_pos
        (page_of (notified moved)).tail_pos (futex_counter s + raises (accepting waits))
    unfolding stored put_all
    left_by =
        let far = stored_write s p (sound_of h) event there far_enough onward not_past fits in
        let near = stored_tail s p (sound_of h) event there far_enough onward not_past fits in
        told_on
        ∙ (λ i. layer (h.sized i) (h.write_is i) s (bytes_added i) (sym far i) (sym near i) (futex_counter s + raises (accepting waits)))

    goes_stored : Holding size capacity (storing size capacity ring e)
        → goes (acceptance s p w event there (length gone)) (record { answer = Done; next = storing size capacity ring e })
    unfolding acceptance
    goes_stored next =
        let back : there - p.tail_pos ≡ total (bytes size) gone = omega (arith, h.tail_is) in
        record {
          answer = told_answer waits;
          given = told_given capacity ring.last (write size ring) (size e) waits (some, omega arith, omega arith);
          holds = record {
            narrow = h.narrow;
            opens = opens_sound _ _ (stored_sound s p (sound_of h) event there far_enough onward not_past fits);
            bytewise = λ i low. notified_small moved i (moved_small i low);
            named = stored_cpu s p (sound_of h) event there ∙ h.named;
            sized = stored_capacity s p (sound_of h) event there ∙ h.sized;
            tail_is = stored_tail s p (sound_of h) event there far_enough onward not_past fits;
            write_is = stored_write s p (sound_of h) event there far_enough onward not_past fits
                ∙ omega (arith, h.write_is, long, storing_write size capacity ring e);
            bytes_are = stored_live s p (sound_of h) event there far_enough onward not_past fits
                ∙ ap₂ (λ (n : ℕ) (l : List ℕ). drop n l ++ event) back h.bytes_are
                ∙ ap₂ (λ (l d : List ℕ). l ++ d) (drop_older cpu capacity (size e) (omega arith) ring.kept) event_is
                ∙ sym (joined_one cpu rest (new ring e));
            last_is = (accepted_numbers w (length gone)).last_is ∙ ap (λ (n : ℕ). n + 1) h.last_is;
            dropped_is = (accepted_numbers w (length gone)).dropped_is ∙ h.dropped_is;
            overwritten_is = (accepted_numbers w (length gone)).overwritten_is ∙ ap (λ (n : ℕ). n + length gone) h.overwritten_is;
            right = accepted_right w (length gone) gone_held h.right;
            holding = next;
          };
          leaves = left_by;
        }

  -- ---- the step

  abbrev sent : AfterEmit
  sent = emission s w (label_of e) e.payload

  -- the record says the same as the ring without bytes
  unspent : ring.last ≢ 2 ^ 64 - 1 → w.last ≡ 2 ^ 64 - 1 → ⊥
  unspent some none = some (sym h.last_is ∙ none)

  half_is : p.capacity / 2 ≡ capacity / 2
  half_is = ap (λ (n : ℕ). n / 2) h.sized

  pub step : Stepped cpu capacity s (wakes (need_wake s)) ring e (emission s w (label_of e) e.payload) (emit size capacity ring e)
  step =
      emit_cases size (λ (m : Emitted (Ring Event)). Holding size capacity m.next → goes sent m) capacity ring e
      (λ none next.
      subst (λ (a : AfterEmit). goes a (record { answer = Refused 8; next = ring }))
      (sym (opens ∙ spent s w (label_of e) e.payload p h.right (h.last_is ∙ none))) (goes_spent none))
      (λ some above next.
      subst (λ (a : AfterEmit). goes a (record { answer = Dropped; next = dropping size ring }))
      (sym (opens ∙ is_dropped s w (label_of e) e.payload p h.right (unspent some) (omega (arith, half_is)))) (goes_dropped some above next))
      (λ some half far next.
      subst (λ (a : AfterEmit). goes a (record { answer = Refused 9; next = ring }))
      (sym (opens ∙ too_far_lem s w (label_of e) e.payload p h.right (unspent some) (omega (arith, half_is)) (omega (arith, h.write_is))))
      (goes_far some half far))
      (λ some half near next.
      subst (λ (a : AfterEmit). goes a (record { answer = Done; next = storing size capacity ring e }))
      (sym
      (opens ∙ is_placed s w (label_of e) e.payload p h.right (unspent some) (omega (arith, half_is)) (omega (arith, h.write_is))
      ∙ agreed s w (label_of e) e.payload p (ring.tail + total (bytes size) gone) (length gone) (walk_ends some half near)
      gone_agreed))
      (goes_stored some half near next))
      (one2 size capacity ring e h.holding).holding
    where
      opens : sent ≡ emitted_on s p w (label_of e) e.payload
      opens = on_sound s w (label_of e) e.payload p (sound_of h)
