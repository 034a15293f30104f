-- RULES 10.2, 4.3: what a recording's missed is on a fresh ring with one writer. An event dropped after the last one that was stored leaves no gap
-- that the ring could show, so it isn't counted: it will be once another event is stored.
use Rattle.std.specs.Prelude.{ℕ, ◌+◌, ◌^◌, ◌<◌}
use mathlib.Core.{Path.◌≡◌, Bool.true, List.List, List.[], List.◌∷◌, List.map}
use lib.{ListN.length}
use Rattle.run_rules.specs.{Runs.LongestRun}
use Rattle.capacity_rules.specs.{Capacity.allowed}
use Rattle.format_rules.specs.{Format.file_with}
use Rattle.recording_rules.specs.{Recording.recording_of}
use Rattle.history.specs.{Ring.Numbered, Calls.Call, Calls.drops, Calls.accepted}
use Rattle.promise.specs.{Bytes.Event, Bytes.encode, Bytes.State, Bytes.Turn, Bytes.Made, Bytes.made, Bytes.after, Bytes.call_of, Bytes.accepted_of, Demand2.created_state}

-- a number that counts only where there is something
abbrev pub where_some : {A : Type 0} → List A → ℕ → ℕ
where_some [] n = 0
where_some (x ∷ xs) n = n

-- how many calls answered DROPPED before the last one that was accepted
abbrev pub dropped_before : {A : Type 0} → List (Call A) → ℕ
dropped_before [] = 0
dropped_before (k ∷ ks) = where_some (accepted ks) (drops k.answer + dropped_before ks)

pub record FreshRecording (cpu capacity : ℕ) (calls : List Made) (end : State) : Type 0 where
  pub kept : List (Numbered Event)
  -- of all that was accepted
  pub longest : LongestRun (λ (x : Numbered Event). length (encode cpu x)) capacity (accepted_of calls) kept
  -- handed counts the events kept; missed all that were overwritten, and those dropped before the last kept event
  pub file : recording_of end.ring
      ≡ file_with cpu (map (encode cpu) kept) (length kept) (end.writer.overwritten + dropped_before (map call_of calls))
  -- which the eight bytes hold
  pub fits : end.writer.overwritten + dropped_before (map call_of calls) < 2 ^ 64

abbrev pub MissedFresh : Type 0
MissedFresh =
    (cpu capacity : ℕ) → cpu < 2 ^ 16 → allowed capacity ≡ true → (buffer : List ℕ) → length buffer ≡ 8192 + capacity → (turns : List Turn) →
    FreshRecording cpu capacity (made (created_state cpu buffer) turns) (after (created_state cpu buffer) turns)
