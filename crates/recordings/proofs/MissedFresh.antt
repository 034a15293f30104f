-- On the ring without bytes: a stored event bears the last number given, which counts all that is kept, overwritten and dropped (`counts`); a drop or a
-- refusal changes neither the events kept nor how many were overwritten. So by induction on the calls the last kept event's number is known (`last_is`).
use Prim.Native.Nat.{ℕ, ◌+◌, ◌-◌}
use native.Mathlib.Nat.{zero-add}
use native.Mathlib.Omega.{arith}
use mathlib.Core.Path.{◌≡◌, refl, sym, ap, ap₂, ◌∙◌, subst₂}
use mathlib.Core.List.{List, [], ◌∷◌, ◌++◌, map}
use lib.ListN.{length, length-map}
use Rattle.run_rules.specs.Runs.{last_of, latest, LongestRun}
use Rattle.run_rules.proofs.Rising.{last_one}
use Rattle.event_rules.specs.Run.{joined}
use Rattle.format_rules.specs.Format.{opening, closing, recording, missed_of}
use Rattle.recording_rules.specs.Recording.{recording_of}
use Rattle.history.specs.Ring.{sequence_of, Numbered, Ring, fresh, bytes}
use Rattle.history.specs.Holding.{Holding}
use Rattle.history.specs.Calls.{Call, drops, accepts, accepted}
use Rattle.history.proofs.Ideal.{Emitted, given, dropping, storing, emit, new, calls, after}
use Rattle.history.proofs.Emission.{fresh_holds, emit_cases}
use Rattle.history.proofs.Demand2.{one2, fresh2}
use Rattle.promise.specs.Bytes.{Event, size, encode, State, Turn, made, call_of}
use Rattle.promise.specs.Bytes.{after as afterTurns}
use Rattle.promise.specs.Holds.{Holds}
use Rattle.promise.specs.Demand2.{created_state}
use Rattle.promise.proofs.Encoding.{encode_lengths}
use Rattle.promise.proofs.Holds.{holds_whole, walked_kept}
use Rattle.promise.proofs.Created.{created_holds}
use Rattle.promise.proofs.Demand2.{same_calls}
use Rattle.recordings.specs.Missed.{where_some, dropped_before, MissedFresh}

-- asked once or twice
where_twice : {A : Type 0} (xs : List A) (m n sum : ℕ) → m + n ≡ sum → where_some xs (m + where_some xs n) ≡ where_some xs sum
where_twice [] m n sum e = refl
where_twice (x ∷ xs) m n sum e = e

where_behind : {A : Type 0} (ys xs : List A) (n : ℕ) → where_some (ys ++ xs) (0 + where_some xs n) ≡ where_some xs n
where_behind [] [] n = refl
where_behind [] (x ∷ xs) n = zero-add n
where_behind (y ∷ ys) xs n = zero-add (where_some xs n)

-- no drop counts where nothing was accepted
before_some : {A : Type 0} (ks : List (Call A)) → where_some (accepted ks) (0 + dropped_before ks) ≡ dropped_before ks
before_some [] = refl
before_some (k ∷ ks) =
    where_behind (accepts k.answer (record { sequence = k.sequence; event = k.event })) (accepted ks) (drops k.answer + dropped_before ks)

module _ {A : Type 0} (size : A → ℕ) (capacity : ℕ) where
  abbrev step : Ring A → A → Emitted (Ring A)
  step = emit size capacity

  -- the number of the last kept event, by how many were dropped before it
  abbrev Last : Ring A → ℕ → Type 0
  Last ring dropped = last_of sequence_of 0 ring.kept ≡ length ring.kept + ring.overwritten + dropped

  -- dropped in all: so many before that event, and so many since
  last_is : (events : List A) (ring : Ring A) → Holding size capacity ring → (before since : ℕ) → ring.dropped ≡ before + since → Last ring before
      → let ks = calls given step ring events in Last (after step ring events) (before + where_some (accepted ks) (since + dropped_before ks))
  unfolding after calls
  last_is [] ring holds before since both is = omega (arith, is)
  last_is (e ∷ es) ring holds before since both is =
      let ks : List (Call A) = calls given step ring es in
      let refused : Last (after step ring es) (before + where_some (accepted ks) (since + where_some (accepted ks) (0 + dropped_before ks))) =
      omega (
        arith,
        last_is es ring holds before since both is,
        where_twice (accepted ks) since (0 + dropped_before ks) (since + dropped_before ks) (omega arith),
      ) in
      emit_cases size
      (λ (r : Emitted (Ring A)).
      let ks = record { event = e; answer = r.answer; sequence = r.next.last } ∷ calls given step r.next es in
      Holding size capacity r.next → Last (after step r.next es) (before + where_some (accepted ks) (since + dropped_before ks)))
      capacity ring e
      (λ spent next. refused)
      (λ spent half next.
      let ks : List (Call A) = calls given step (dropping size ring) es in
      omega (
        arith,
        last_is es (dropping size ring) next before (since + 1) (omega (arith, both)) is,
        where_twice (accepted ks) since (1 + dropped_before ks) (since + 1 + dropped_before ks) (omega arith),
      ))
      (λ spent half far next. refused)
      (λ spent half far next.
      let known = last_one sequence_of 0 (latest (bytes size) (capacity - size e) ring.kept) (new ring e) in
      omega (arith, last_is es (storing size capacity ring e) next (before + since) 0 (omega (arith, both)) (omega (arith, known, next.counts, both))))
      (one2 size capacity ring e holds).holding

-- the recording of bytes that hold a ring, by the number of its last event
file_of_lem : (cpu capacity : ℕ) (s : State) (ring : Ring Event) → Holds cpu capacity s.ring s.writer ring
    → (missed : ℕ) → last_of sequence_of 0 ring.kept ≡ length ring.kept + missed
    → recording_of s.ring ≡ opening cpu ++ joined (map (encode cpu) ring.kept) ++ closing (length ring.kept) missed
unfolding recording_of recording
file_of_lem cpu capacity s ring h missed last =
    let events : List (List ℕ) = map (encode cpu) ring.kept in
    let count : length events ≡ length ring.kept = length-map ring.kept (encode cpu) in
    let rest : missed_of events ≡ missed = omega (arith, last, count, (holds_whole cpu capacity s.ring s.writer ring h).1) in
    ap₂ recording h.named (walked_kept cpu capacity s.ring s.writer ring h)
    ∙ ap₂ (λ (m n : ℕ). opening cpu ++ joined events ++ closing m n) count rest

pub missed_fresh : MissedFresh
missed_fresh cpu capacity narrow fit buffer long turns =
    let begun : State = created_state cpu buffer in
    let end : State = afterTurns begun turns in
    let events : List Event = map (λ (t : Turn). t.event) turns in
    let ring : Ring Event = after (emit size capacity) fresh events in
    let ks : List (Call Event) = calls given (emit size capacity) fresh events in
    let same = same_calls cpu capacity turns begun fresh (created_holds cpu capacity narrow fit buffer long) in
    let holds : Holds cpu capacity end.ring end.writer ring = same.1 in
    let last : last_of sequence_of 0 ring.kept ≡ length ring.kept + (end.writer.overwritten + dropped_before (map call_of (made begun turns))) =
    omega (
      arith,
      last_is size capacity events fresh (fresh_holds size capacity) 0 0 (omega arith) (omega arith),
      before_some ks,
      ap dropped_before same.0,
      holds.overwritten_is,
    ) in
    record {
      kept = ring.kept;
      longest = subst₂ (λ (f : Numbered Event → ℕ) (js : List (Call Event)). LongestRun f capacity (accepted js) ring.kept)
          (sym (encode_lengths cpu)) (sym same.0) (fresh2 size capacity events).kept;
      file = file_of_lem cpu capacity end ring holds _ (omega (arith, last));
      fits = omega (arith, last, holds.holding.known, holds.holding.spendable);
    }
