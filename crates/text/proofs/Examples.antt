-- Worked examples, by computing.
use mathlib.Core.Path.{◌≡◌, refl}
use mathlib.Core.List.{[], ◌∷◌}
use Rattle.text.specs.Decimal.{decimal}

zero_text : decimal 0 ≡ 48 ∷ []
unfolding decimal
zero_text = refl

thousand_text : decimal 1000 ≡ 49 ∷ 48 ∷ 48 ∷ 48 ∷ []
unfolding decimal
thousand_text = refl

largest_text : decimal 18446744073709551615
    ≡ 49 ∷ 56 ∷ 52 ∷ 52 ∷ 54 ∷ 55 ∷ 52 ∷ 52 ∷ 48 ∷ 55 ∷ 51 ∷ 55 ∷ 48 ∷ 57 ∷ 53 ∷ 53 ∷ 49 ∷ 54 ∷ 49 ∷ 53 ∷ []
unfolding decimal
largest_text = refl
