-- A ring that passes inspection holds events that a recording can hold (they are the ring's bytes), so that its recording is told as `sound_recordings` says; and no
-- fault is among what is told of a recording (`told_well`, by induction on the events).
use Prim.Native.Nat.{ℕ, ◌+◌, ◌-◌, ◌^◌, ◌<◌}
use native.Mathlib.Omega.{arith}
use mathlib.Core.Path.{◌≡◌, refl, sym, subst}
use mathlib.Core.List.{List, [], ◌∷◌}
use lib.ListN.{length}
use lib.Dec.{eqb}
use Rattle.std.specs.Prelude.{None}
use Rattle.word_rules.proofs.Reading.{number_bound}
use Rattle.page_rules.specs.Page.{page_of}
use Rattle.page_rules.specs.declared.Page.{Page}
use Rattle.region_rules.proofs.Bytes.{bytes_small}
use Rattle.look_rules.specs.Live.{rest, live}
use Rattle.inspect_rules.specs.Inspect.{walked}
use Rattle.inspect_rules.proofs.Surveys.{whole_live}
use Rattle.inspect_rules.proofs.Answers.{whole_inspected}
use Rattle.recording_rules.specs.Recording.{recording_of}
use Rattle.reading_rules.specs.Account.{Account, account_of}
use Rattle.reading_rules.specs.Faultless.{NoFault, Faultless}
use Rattle.reading_rules.proofs.Cases.{by_test}
use Rattle.faultless.specs.Sound.{events_told, recording_told, Recordable, SoundRings}
use Rattle.faultless.proofs.Fitting.{Bytes, events_fit}
use Rattle.faultless.proofs.Recordings.{sound_recordings}

abbrev pub Clean : Account → Type 0
Clean x = NoFault x.reports × (x.end ≡ None)

events_well : (at : ℕ) (events : List (List ℕ)) (next : Account) → Clean next → Clean (events_told at events next)
unfolding events_told
events_well at [] next c = c
events_well at (e ∷ es) next c =
    let rest : Clean (events_told (at + length e) es next) = events_well (at + length e) es next c in
    by_test Clean (eqb (length e - 32) 0) (λ t. rest) (λ t. rest)

told_well : (events : List (List ℕ)) → Clean (recording_told events)
unfolding recording_told
told_well events = events_well 8 events _ (tt, refl)

pub recording_faultless : (file : List ℕ) (events : List (List ℕ)) → account_of file ≡ recording_told events → Faultless file
recording_faultless file events e =
    let c : Clean (account_of file) = subst Clean (sym e) (told_well events) in
    record { no_fault = c.0; ends_well = c.1 }

live_bytes : (s : List ℕ) (p : Page) → Bytes s → Bytes (live s p)
unfolding live rest
live_bytes s p small = bytes_small s p.capacity p.tail_pos (p.write_pos - p.tail_pos) small

cpu_small : (s : List ℕ) → Bytes s → (page_of s).cpu_id < 2 ^ 16
unfolding page_of
cpu_small s small = number_bound s 12 2 small

pub sound_rings : SoundRings
unfolding recording_of
sound_rings s found small whole =
    let p : Page = page_of s in
    let passes = whole_inspected s found whole in
    let all = whole_live s p passes.0.order passes.1 in
    let fits = events_fit p.cpu_id 0 (walked s p) all.1.0 (subst Bytes all.0 (live_bytes s p small)) (omega arith) in
    let can : Recordable p.cpu_id (walked s p) =
    record { each = all.1.0; rising = all.1.1; cpu_fits = cpu_small s small; last_fits = fits.0; sizes_fit = fits.1 } in
    let told : account_of (recording_of s) ≡ recording_told (walked s p) = sound_recordings p.cpu_id (walked s p) can in
    record { recordable = can; told = told; faultless = recording_faultless (recording_of s) (walked s p) told }
