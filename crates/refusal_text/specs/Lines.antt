-- RULES 8.7, 8.9: the line that a refusal gives, and the one of an input that is too long.
use Rattle.std.specs.Prelude.{ℕ}
use mathlib.Core.{List.List, List.[], List.◌∷◌, List.◌++◌}
use Rattle.table_rules.specs.{Refusals.paper_number, Refusals.paper_values, declared.Refusal.Refusal}
use Rattle.text.specs.{Phrase.worded}

abbrev pub newline : ℕ
newline = 10

-- "too long" and its newline
abbrev pub too_long : List ℕ
too_long = 116 ∷ 111 ∷ 111 ∷ 32 ∷ 108 ∷ 111 ∷ 110 ∷ 103 ∷ newline ∷ []

-- "refused "
abbrev pub refused : List ℕ
refused = 114 ∷ 101 ∷ 102 ∷ 117 ∷ 115 ∷ 101 ∷ 100 ∷ 32 ∷ []

-- " at "
abbrev pub at_place : List ℕ
at_place = 32 ∷ 97 ∷ 116 ∷ 32 ∷ []

-- " why "
abbrev pub for_reason : List ℕ
for_reason = 32 ∷ 119 ∷ 104 ∷ 121 ∷ 32 ∷ []

-- the values of a refusal that bears some: a place, and a reason behind it
abbrev pub reason_text : List ℕ → List ℕ
reason_text [] = []
reason_text (reason ∷ more) = worded for_reason reason

abbrev pub values_text : List ℕ → List ℕ
values_text [] = []
values_text (place ∷ more) = worded at_place place ++ reason_text more

-- `refused 4`, or `refused 10 at 288 why 5`
unfoldable pub refusal_line : Refusal → List ℕ
refusal_line refusal = worded refused (paper_number refusal) ++ values_text (paper_values refusal) ++ (newline ∷ [])
