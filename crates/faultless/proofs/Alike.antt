-- A recording tells its cpu_id and its events: the opening says the one, and an inspection of what follows the opening passes the others and stops at the closing, which is
-- too short to be an event.
use Prim.Native.Nat.{ℕ, ◌<◌}
use native.Mathlib.Omega.{arith}
use mathlib.Core.Path.{◌≡◌, sym, ap, ap₂, ◌∙◌}
use mathlib.Core.List.{List, ◌++◌, append_assoc, append-nil}
use lib.ListN.{length, drop}
use lib.Seq.{drop_at}
use Rattle.word_rules.specs.Number.{number}
use Rattle.word_rules.proofs.Reading.{number_front}
use Rattle.run_rules.specs.Runs.{last_of}
use Rattle.event_rules.specs.Event.{sequence}
use Rattle.event_rules.specs.Run.{joined, sound_run}
use Rattle.event_rules.proofs.Faults.{short_ill}
use Rattle.event_rules.proofs.Runs.{ill_stops, run_stop, run_pass}
use Rattle.format_rules.specs.Format.{opening, closing, missed_of, recording}
use Rattle.format_rules.proofs.Parts.{opening_length, opening_says, closing_length}
use Rattle.faultless.specs.Sound.{Recordable}
use Rattle.faultless.specs.Only.{NoTwoAlike}

module _ (cpu : ℕ) (events : List (List ℕ)) (fit : Recordable cpu events) where
  abbrev end : List ℕ
  end = closing (length events) (missed_of events)

  parted : recording cpu events ≡ opening cpu ++ (joined events ++ end)
  unfolding recording
  parted = append_assoc (opening cpu) (joined events) end

  tells_cpu : number (recording cpu events) 5 2 ≡ cpu
  tells_cpu =
      ap (λ (file : List ℕ). number file 5 2) parted
      ∙ number_front (opening cpu) (joined events ++ end) 5 2 (omega (arith, opening_length cpu))
      ∙ (opening_says cpu (omega (arith, fit.cpu_fits))).cpu_is

  tells_events : sound_run cpu 0 (drop 8 (recording cpu events)) ≡ events
  tells_events =
      let last : ℕ = last_of sequence 0 events in
      let short : length end < 32 = omega (arith, closing_length (length events) (missed_of events)) in
      ap (λ (file : List ℕ). sound_run cpu 0 (drop 8 file)) parted
      ∙ ap (sound_run cpu 0) (drop_at (opening cpu) (joined events ++ end) 8 (opening_length cpu))
      ∙ run_pass cpu 0 events end (fit.each, fit.rising)
      ∙ ap (λ (rest : List (List ℕ)). events ++ rest) (run_stop cpu last end (ill_stops cpu last end (short_ill cpu end short)))
      ∙ append-nil events

pub no_two_alike : NoTwoAlike
no_two_alike cpu other events others fit fits same =
    let one : cpu ≡ other =
    sym (tells_cpu cpu events fit) ∙ ap (λ (file : List ℕ). number file 5 2) same ∙ tells_cpu other others fits in (
      one,
      sym (tells_events cpu events fit) ∙ ap₂ (λ (c : ℕ) (file : List ℕ). sound_run c 0 (drop 8 file)) one same ∙ tells_events other others fits,
    )
