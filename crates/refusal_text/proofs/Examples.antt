-- RULES 8.7: the examples, by computing.
use mathlib.Core.Path.{◌≡◌, refl}
use mathlib.Core.List.{[], ◌∷◌}
use Rattle.table_rules.specs.declared.Refusal.TheVariants.{Layout, Damaged}
use Rattle.text.specs.Decimal.{decimal}
use Rattle.text.specs.Phrase.{worded}
use Rattle.refusal_text.specs.Lines.{refusal_line}

-- `refused 4`
layout_line : refusal_line Layout ≡ 114 ∷ 101 ∷ 102 ∷ 117 ∷ 115 ∷ 101 ∷ 100 ∷ 32 ∷ 52 ∷ 10 ∷ []
unfolding refusal_line worded decimal
layout_line = refl

-- `refused 10 at 288 why 5`
damaged_line : refusal_line (Damaged (record { position = 288; reason = 5 }))
    ≡ 114 ∷ 101 ∷ 102 ∷ 117 ∷ 115 ∷ 101 ∷ 100 ∷ 32 ∷ 49 ∷ 48 ∷ 32 ∷ 97 ∷ 116 ∷ 32 ∷ 50 ∷ 56 ∷ 56 ∷ 32 ∷ 119 ∷ 104 ∷ 121 ∷ 32 ∷ 53 ∷ 10 ∷ []
unfolding refusal_line worded decimal
damaged_line = refl
