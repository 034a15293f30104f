-- Wrong emissions don't meet the second demand. One call tells of those that refuse, drop or miscount. Of those that store too little two histories of
-- two calls do, alike but for the second event's time: such an emission leaves the same bytes after both.
use Prim.Native.Nat.{ℕ, suc, ◌+◌, ◌-◌, ◌^◌, ◌≤◌, ◌<◌}
use native.Mathlib.Omega.{arith}
use mathlib.Core.Path.{◌≡◌, refl, sym, ap, ◌∙◌}
use mathlib.Core.Logic.{⊎_elim}
use mathlib.Core.Bool.{Bool, true, cond}
use mathlib.Core.List.{List, [], ◌∷◌, ◌++◌, map}
use lib.ListN.{length, get_or, drop, replicate, length-replicate}
use lib.Seq.{drop_at, get_or-set_same}
use lib.Dec.{eqb}
use Rattle.std.specs.Prelude.{Ok, Err}
use Rattle.table_rules.specs.declared.Refusal.{Refusal}
use Rattle.capacity_rules.specs.Capacity.{power_among, allowed}
use Rattle.word_rules.specs.Number.{number}
use Rattle.word_rules.proofs.Reading.{number_one}
use Rattle.word_rules.proofs.Writing.{round_trip}
use Rattle.page_rules.specs.Page.{page_of}
use Rattle.page_rules.specs.Wake.{futex_counter, wakes}
use Rattle.page_rules.proofs.Sound.{sound_length}
use Rattle.page_rules.proofs.Fresh.{blank_zero}
use Rattle.page_rules.proofs.Wake.{all_but_zero}
use Rattle.event_rules.specs.Event.{timestamp}
use Rattle.event_rules.specs.Run.{joined}
use Rattle.event_rules.proofs.Made.{made_before}
use Rattle.event_rules.proofs.Facts.{Fit, heading}
use Rattle.look_rules.specs.Live.{live}
use Rattle.writer_rules.specs.Writer.{zeros}
use Rattle.emit_rules.specs.Emit.{dropped}
use Rattle.emit_rules.specs.declared.Outcome.TheVariants.{Wake, Dropped}
use Rattle.run_rules.specs.Runs.{latest, older}
use Rattle.history.specs.Ring.{fresh}
use Rattle.history.proofs.Ideal.{emit}
use Rattle.history.proofs.Ideal.{after as afterCalls}
use Rattle.promise.specs.Bytes.{Event, size, encode, State, Turn, consumed, uncalled, Emission, made_by, after_by, after, called, raises}
use Rattle.promise.specs.Holds.{Holds}
use Rattle.promise.proofs.Opened.{sound_of, emitted}
use Rattle.promise.specs.Demand2.{Given, waiting, created_state, Promise, FreshBy2}
use Rattle.promise.proofs.WrongEmissions.{refusing_emission, dropping, silent, moving, storing_first, inventing, unraising, scribbling, ShutOut2}
use Rattle.promise.proofs.Encoding.{encode_length}
use Rattle.promise.proofs.Layers.{layer_length, layer_number, layer_counter, uncalled_number}
use Rattle.promise.proofs.Created.{created_blank, created_holds, fresh2}
use Rattle.promise.proofs.Demand2.{same_calls}
use Rattle.promise.proofs.Only2.{only2}

-- ---- a ring of cpu 0 with 256 bytes, and events without payload

pub fit : allowed 256 ≡ true
unfolding allowed power_among
fit = refl

pub early : 0 < 2 ^ 64
early = omega arith

abbrev pub event : (time : ℕ) → time < 2 ^ 64 → Event
event time fits = record {
  timestamp = time;
  type = 0;
  class = 0;
  payload = [];
  timestamp_fits = fits;
  type_fits = omega arith;
  class_fits = omega arith;
}

-- no refusal is to be given for such an event on a fresh ring
not_given : (r : Refusal) (waits : Bool) → Given 256 0 0 32 waits (Err r) → ⊥
not_given r waits given = ⊎_elim (λ h. omega (arith, h.1)) (λ h. omega (arith, h.3)) given

module _ (buffer : List ℕ) (long : length buffer ≡ 8192 + 256) (page : List ℕ) (whole : length page ≡ 4096) where
  abbrev begun : State
  begun = created_state 0 buffer

  abbrev turn : (time : ℕ) → time < 2 ^ 64 → Turn
  turn time fits = record { page = page; whole = whole; event = event time fits }

  abbrev first : Turn
  first = turn 0 early

  -- ---- one call

  promised : (make : Emission) → FreshBy2 make
      → Promise 0 256 fresh (uncalled begun.ring (first ∷ [])) (made_by make begun (first ∷ [])) (after_by make begun (first ∷ []))
  promised make meets = (meets 0 256 (omega arith) fit buffer long (first ∷ [])).1

  refusing_shut : (r : Refusal) → FreshBy2 (refusing_emission r) → ⊥
  unfolding made_by
  refusing_shut r meets = not_given r (waiting first) (((promised (refusing_emission r) meets).exact.0 (Err r)).0 refl)

  dropping_shut : FreshBy2 dropping → ⊥
  unfolding made_by dropped
  dropping_shut meets = omega (arith, (((promised dropping meets).exact.0 (Ok Dropped)).0 refl).1)

  inventing_shut : (drops overwrites : ℕ) → 0 < drops + overwrites → FreshBy2 (inventing drops overwrites) → ⊥
  unfolding after_by
  inventing_shut drops overwrites some meets =
      let same = (only2 (inventing drops overwrites) meets 0 256 (omega arith) fit buffer long (first ∷ [])).1 in
      omega (arith, ap (λ (s : State). s.writer.dropped) same, ap (λ (s : State). s.writer.overwritten) same)

  -- ---- two calls

  holds : (turns : List Turn) → Holds 0 256 (after begun turns).ring (after begun turns).writer
      (afterCalls (emit size 256) fresh (map (λ (t : Turn). t.event) turns))
  holds turns = (same_calls 0 256 turns begun fresh (created_holds 0 256 (omega arith) fit buffer long)).1

  -- what the operation leaves after one
  abbrev one : State
  one = after begun (first ∷ [])

  one_long : 8448 ≤ length one.ring
  one_long = sound_length one.ring (page_of one.ring) (sound_of (holds (first ∷ [])))

  unraising_shut : get_or page 0 0 ≡ 1 → FreshBy2 unraising → ⊥
  unfolding made_by after_by uncalled
  unraising_shut waits meets =
      let promise = (fresh2 0 256 (omega arith) fit buffer long (first ∷ [])).1 in
      let flagged : wakes (get_or page 0 0) ≡ true = ap wakes waits ∙ all_but_zero.1 1 (λ (e : ◌≡◌ {A = ℕ} 1 0). omega arith) in
      let told : (emitted begun first).answer.outcome ≡ (Ok Wake) =
      (promise.exact.0 (Ok Wake)).1 (flagged, (λ (e : ◌≡◌ {A = ℕ} 0 (2 ^ 64 - 1)). omega arith, omega arith, omega arith)) in
      let now : List ℕ = consumed begun.ring page in
      let wide : 8192 ≤ length now = omega (arith, one_long, ap length promise.ring ∙ layer_length _ _ now _ _ _ _) in
      omega (
        arith,
        ap (λ (s : State). futex_counter s.ring) (only2 unraising meets 0 256 (omega arith) fit buffer long (first ∷ [])).1,
        round_trip one.ring 128 4 (futex_counter now) (omega (arith, one_long)),
        ap futex_counter promise.ring ∙ layer_counter _ _ now _ _ _ _ wide,
        ap raises told,
      )

  -- byte 192 is a created ring's still
  one_zero : number one.ring 192 1 ≡ 0
  one_zero =
      let paged = sound_length begun.ring (page_of begun.ring) (sound_of (created_holds 0 256 (omega arith) fit buffer long)) in
      ap (λ (s : List ℕ). number s 192 1) (fresh2 0 256 (omega arith) fit buffer long (first ∷ [])).1.ring
      ∙ layer_number _ _ _ _ _ _ _ 192 1 tt (omega arith)
      ∙ uncalled_number (first ∷ []) begun.ring (omega arith) 192 1 (omega arith)
      ∙ ap (λ (s : List ℕ). number s 192 1) (created_blank 0 256 (omega arith) fit buffer long)
      ∙ blank_zero 0 256 1 (omega arith) fit (omega arith) (omega arith) 192 1 tt

  scribbling_shut : FreshBy2 scribbling → ⊥
  unfolding after_by
  scribbling_shut meets =
      omega (
        arith,
        ap (λ (s : State). get_or s.ring 192 0) (only2 scribbling meets 0 256 (omega arith) fit buffer long (first ∷ [])).1,
        get_or-set_same one.ring 192 1 0 (omega (arith, one_long)),
        number_one one.ring 192,
        one_zero,
      )

  module _ (time : ℕ) (fits : time < 2 ^ 64) where
    abbrev twice : List Turn
    twice = first ∷ turn time fits ∷ []

    -- the operation leaves both events' bytes
    both : live (after begun twice).ring (page_of (after begun twice).ring)
        ≡ encode 0 (record { sequence = 1; event = event 0 early }) ++ (encode 0 (record { sequence = 2; event = event time fits }) ++ [])
    unfolding emit latest older afterCalls joined
    both = (holds twice).bytes_are

    -- and so does whatever meets the demand: the second event's time can be told from what it leaves
    told : (make : Emission) → FreshBy2 make
        → timestamp (drop 32 (live (after_by make begun twice).ring (page_of (after_by make begun twice).ring))) ≡ time
    unfolding encode
    told make meets =
        ap (λ (s : State). timestamp (drop 32 (live s.ring (page_of s.ring)))) (only2 make meets 0 256 (omega arith) fit buffer long twice).1
        ∙ ap (λ (l : List ℕ). timestamp (drop 32 l)) both
        ∙ ap timestamp (drop_at (encode 0 (record { sequence = 1; event = event 0 early }))
        (encode 0 (record { sequence = 2; event = event time fits }) ++ []) 32 (encode_length 0 (record { sequence = 1; event = event 0 early })))
        ∙ (made_before 0 2 time 0 0 [] says []).timestamp_is
      where
        says : Fit 32 (heading 0 2 time 0 0)
        says = record {
          size_fits = omega arith;
          cpu_fits = omega arith;
          sequence_fits = omega arith;
          timestamp_fits = fits;
          type_fits = omega arith;
          class_fits = omega arith;
        }

  -- so an emission that leaves the same bytes for two times doesn't meet it
  blind : (make : Emission) → (after_by make begun (twice 1 (omega arith))).ring ≡ (after_by make begun (twice 2 (omega arith))).ring → FreshBy2 make → ⊥
  blind make same meets =
      omega (
        arith,
        told 1 (omega arith) make meets,
        told 2 (omega arith) make meets,
        ap (λ (s : List ℕ). timestamp (drop 32 (live s (page_of s)))) same,
      )

  silent_shut : FreshBy2 silent → ⊥
  unfolding after_by
  silent_shut = blind silent refl

  moving_shut : FreshBy2 moving → ⊥
  unfolding after_by
  moving_shut = blind moving refl

  one_given : (after begun (first ∷ [])).writer.last ≡ 1
  unfolding emit latest older afterCalls
  one_given = (holds (first ∷ [])).last_is

  -- at its second call it moves the position
  moves_later : (time : ℕ) (fits : time < 2 ^ 64)
      → (after_by storing_first begun (twice time fits)).ring ≡ (called moving (after begun (first ∷ [])) (turn time fits)).ring
  unfolding after_by zeros
  moves_later time fits =
      let s : State = after begun (first ∷ []) in
      ap (λ (last : ℕ). (cond (eqb last 0) (emitted s (turn time fits)) (called moving s (turn time fits))).ring) one_given

  storing_first_shut : FreshBy2 storing_first → ⊥
  storing_first_shut = blind storing_first (moves_later 1 (omega arith) ∙ sym (moves_later 2 (omega arith)))

pub shut_out2 : ShutOut2
shut_out2 = record {
  refuses = λ r. refusing_shut buffer long page whole r;
  drops = dropping_shut buffer long page whole;
  writes_nothing = silent_shut buffer long page whole;
  only_moves = moving_shut buffer long page whole;
  stores_first = storing_first_shut buffer long page whole;
  invents = λ drops overwrites some. inventing_shut buffer long page whole drops overwrites (omega arith);
  never_raises = unraising_shut buffer long (1 ∷ replicate 4095 0) (ap suc (length-replicate {A = ℕ} 4095 0)) refl;
  scribbles = scribbling_shut buffer long page whole;
}
  where
    buffer : List ℕ
    buffer = replicate 8448 0

    long : length buffer ≡ 8192 + 256
    long = length-replicate {A = ℕ} 8448 0

    page : List ℕ
    page = replicate 4096 0

    whole : length page ≡ 4096
    whole = length-replicate {A = ℕ} 4096 0
