-- RULES 10.3: a ring's recording is what a newly attached reader would be handed until EMPTY, with that reader's own counts.
-- Of any ring that passes 1 to 6 and inspection, whoever made it.
use Rattle.std.specs.Prelude.{ℕ, ◌≤◌, Ok}
use mathlib.Core.{Path.◌≡◌, List.List}
use Rattle.page_rules.specs.{Page.page_of}
use Rattle.inspect_rules.specs.{Inspect.inspected, declared.Summary.Summary}
use Rattle.reader_rules.specs.{Reader.missed, Attach.attached, Read.read_out, declared.Reader.Reader}
use Rattle.format_rules.specs.{Format.file_with}
use Rattle.recording_rules.specs.{Recording.recording_of}
use Rattle.comparison.specs.{Emptying.Empties}

-- the file of what was handed out, one event after the other, and of the counts in the record that the reader is left with
abbrev pub file_of : ℕ → List (List ℕ) → Reader → List ℕ
file_of cpu events end = file_with cpu events end.handed (missed end)

-- `any` is the record that attaching was given
pub record Handed (s : List ℕ) (any : Reader) : Type 0 where
  pub attaches : (attached s any).answer ≡ Ok tt
  -- reading comes to EMPTY
  pub events : List (List ℕ)
  pub end : Reader
  pub empties : Empties read_out s (attached s any).reader events end
  -- missed is a true difference
  pub counted : end.handed ≤ end.last
  -- and whatever was handed out until EMPTY, in whatever buffers, the recording holds just that
  pub recording : (handed : List (List ℕ)) (left : Reader) → Empties read_out s (attached s any).reader handed left
      → recording_of s ≡ file_of (page_of s).cpu_id handed left

abbrev pub NewReader : Type 0
NewReader = (s : List ℕ) (found : Summary) → inspected s ≡ Ok found → (any : Reader) → Handed s any
