-- RULES 10.10: what the program that checks a recording writes.
use Rattle.std.specs.Prelude.{ℕ, Option, Some, None, Result, Ok, Err}
use Rattle.table_rules.specs.declared.Refusal.{Refusal}
use mathlib.Core.{List.List, List.[], List.◌∷◌, List.◌++◌}
use lib.{ListN.length}
use Rattle.verification_rules.specs.{Verify.verified}
use Rattle.text.specs.{Phrase.worded}
use Rattle.refusal_text.specs.{Lines.newline, Lines.refusal_line, Reply.Reply, Reply.wanted, Reply.other, Reply.hindrance}

-- "same "
abbrev pub same : List ℕ
same = 115 ∷ 97 ∷ 109 ∷ 101 ∷ 32 ∷ []

-- " bytes" and the newline
abbrev pub many_bytes : List ℕ
many_bytes = 32 ∷ 98 ∷ 121 ∷ 116 ∷ 101 ∷ 115 ∷ newline ∷ []

-- "differs at "
abbrev pub differs_at : List ℕ
differs_at = 100 ∷ 105 ∷ 102 ∷ 102 ∷ 101 ∷ 114 ∷ 115 ∷ 32 ∷ 97 ∷ 116 ∷ 32 ∷ []

-- `same 312 bytes`
unfoldable pub same_line : ℕ → List ℕ
same_line size = worded same size ++ many_bytes

-- `differs at 264`
unfoldable pub differs_line : ℕ → List ℕ
differs_line place = worded differs_at place ++ (newline ∷ [])

-- of a file of so many bytes
abbrev pub compared_by : ℕ → Option ℕ → Reply
compared_by size None = wanted (same_line size)
compared_by size (Some place) = other (differs_line place)

abbrev pub verdict_by : ℕ → Result (Option ℕ) Refusal → Reply
verdict_by size (Err refusal) = hindrance (refusal_line refusal)
verdict_by size (Ok difference) = compared_by size difference

unfoldable pub verdict : List ℕ → List ℕ → Reply
verdict ring file = verdict_by (length file) (verified ring file)
