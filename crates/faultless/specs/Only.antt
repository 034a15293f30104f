-- RULES 11.6: a file of bytes that is read without fault is the recording of the events that are told of it. So to be faultless is to be a recording.
use Rattle.std.specs.Prelude.{ℕ, ◌<◌}
use mathlib.Core.{Path.◌≡◌, Logic.◌↔◌, List.List}
use lib.{ListN.get_or}
use Rattle.format_rules.specs.{Format.recording}
use Rattle.reading_rules.specs.{Account.account_of, Faultless.Faultless}
use Rattle.faultless.specs.{Sound.recording_told, Sound.Recordable}

pub record IsRecording (file : List ℕ) : Type 0 where
  pub cpu : ℕ
  pub events : List (List ℕ)
  pub fits : Recordable cpu events
  pub is : file ≡ recording cpu events

abbrev pub OnlyRecordings : Type 0
OnlyRecordings = (file : List ℕ) → ((i : ℕ) → get_or file i 0 < 256) → Faultless file
    → (is : IsRecording file) × (account_of file ≡ recording_told is.events)

-- and the other way
abbrev pub FaultlessMeans : Type 0
FaultlessMeans = (file : List ℕ) → ((i : ℕ) → get_or file i 0 < 256) → Faultless file ↔ IsRecording file

-- and no two lists of events share a recording
abbrev pub NoTwoAlike : Type 0
NoTwoAlike = (cpu other : ℕ) (events others : List (List ℕ)) → Recordable cpu events → Recordable other others
    → recording cpu events ≡ recording other others → (cpu ≡ other) × (events ≡ others)
