-- RULES 10.8: which recordings pass. Of any ring, whoever made it, and any file.
use Rattle.std.specs.Prelude.{ℕ, Some, None, Ok, Err}
use mathlib.Core.{Path.◌≡◌, Logic.◌↔◌, List.List}
use lib.{ListN.length}
use Rattle.table_rules.specs.{declared.Refusal.Refusal}
use Rattle.page_rules.specs.{Page.page_of}
use Rattle.inspect_rules.specs.{Inspect.inspected, declared.Summary.Summary}
use Rattle.reader_rules.specs.{Attach.attached, Read.read_out, declared.Reader.Reader}
use Rattle.recording_rules.specs.{Recording.recording_of}
use Rattle.difference_rules.specs.{Difference.PartAt}
use Rattle.verification_rules.specs.{Verify.verified}
use Rattle.comparison.specs.{Emptying.Empties}
use Rattle.recordings.specs.{Handed.file_of, Pieces.Lending, Pieces.pieces}

abbrev pub Passes : List ℕ → List ℕ → Type 0
Passes s file = verified s file ≡ Ok None

-- as much was placed as the recording is long
abbrev pub AllWritten : List ℕ → List Lending → Type 0
AllWritten s ls = length (pieces s 0 ls) ≡ length (recording_of s)

pub record Passing (s : List ℕ) : Type 0 where
  -- whatever record wrote piece by piece, once it has written all
  pub written : (ls : List Lending) → AllWritten s ls → Passes s (pieces s 0 ls)
  -- and nothing else
  pub only : (file : List ℕ) → Passes s file → (ls : List Lending) × AllWritten s ls × (file ≡ pieces s 0 ls)
  -- so it holds just the events that a newly attached reader would be handed, with that reader's counts
  pub handed : (any : Reader) (events : List (List ℕ)) (end : Reader) → Empties read_out s (attached s any).reader events end
      → (file : List ℕ) → Passes s file ↔ (file ≡ file_of (page_of s).cpu_id events end)
  -- of every other file the place is told up to which it agrees with the ring's own
  pub differs : (file : List ℕ) (place : ℕ) → (verified s file ≡ Ok (Some place)) ↔ PartAt place (recording_of s) file

pub record Verdicts (s : List ℕ) : Type 0 where
  -- a ring is refused exactly where inspection refuses it, with the same number, place and reason, whatever the file
  pub refused : (file : List ℕ) (r : Refusal) → (verified s file ≡ Err r) ↔ (inspected s ≡ Err r)
  pub whole : (found : Summary) → inspected s ≡ Ok found → Passing s

abbrev pub WhatPasses : Type 0
WhatPasses = (s : List ℕ) → Verdicts s
