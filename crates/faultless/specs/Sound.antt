-- RULES 11.6: a recording is read without fault, and what is told of it are its events, each header and its whole payload, and the counts.
-- Of all events that a recording can hold, and so of every ring that passes 1 to 6 and inspection.
use Rattle.std.specs.Prelude.{ℕ, ◌+◌, ◌-◌, ◌^◌, ◌<◌, Ok}
use mathlib.Core.{Path.◌≡◌, List.List, List.[], List.◌∷◌}
use lib.{ListN.length, ListN.get_or, ListN.take}
use Rattle.run_rules.specs.{Runs.Rising, Runs.last_of}
use Rattle.page_rules.specs.{Page.page_of}
use Rattle.event_rules.specs.{Event.sequence, Run.Each}
use Rattle.inspect_rules.specs.{Inspect.walked, Inspect.inspected, declared.Summary.Summary}
use Rattle.format_rules.specs.{Format.missed_of, Format.recording}
use Rattle.recording_rules.specs.{Recording.recording_of}
use Rattle.reading_rules.specs.{Account.Head, Account.Counts, Account.Account, Account.say, Account.silence, Account.stretch, Account.account_of, Faultless.Faultless}

-- events that begin at the place `at`: each header, and its whole payload as one stretch; then `next`
unfoldable pub events_told : ℕ → List (List ℕ) → Account → Account
events_told at [] next = next
events_told at (event ∷ events) next =
    say (Head (take 32 event)) (stretch (at + 32) (length event - 32) (events_told (at + length event) events next))

-- behind the opening's eight bytes the events, and the counts
unfoldable pub recording_told : List (List ℕ) → Account
recording_told events = events_told 8 events (say (Counts (length events) (missed_of events)) silence)

-- events that a recording can hold: well formed, their sequences rising from 0, and each number within its bytes
pub record Recordable (cpu : ℕ) (events : List (List ℕ)) : Type 0 where
  pub each : Each cpu events
  pub rising : Rising sequence 0 events
  pub cpu_fits : cpu < 2 ^ 16
  pub last_fits : last_of sequence 0 events < 2 ^ 64
  pub sizes_fit : (i : ℕ) → length (get_or events i []) < 2 ^ 32

abbrev pub SoundRecordings : Type 0
SoundRecordings = (cpu : ℕ) (events : List (List ℕ)) → Recordable cpu events → account_of (recording cpu events) ≡ recording_told events

pub record RingTold (s : List ℕ) : Type 0 where
  pub recordable : Recordable (page_of s).cpu_id (walked s (page_of s))
  pub told : account_of (recording_of s) ≡ recording_told (walked s (page_of s))
  pub faultless : Faultless (recording_of s)

-- of rings of bytes
abbrev pub SoundRings : Type 0
SoundRings = (s : List ℕ) (found : Summary) → ((i : ℕ) → get_or s i 0 < 256) → inspected s ≡ Ok found → RingTold s
