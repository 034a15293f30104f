-- Worked examples, by computing.
use mathlib.Core.Path.{◌≡◌, refl}
use mathlib.Core.List.{[], ◌∷◌}
use Rattle.std.specs.Prelude.{Some, None}
use Rattle.script.specs.Field.{behind, field_of, parts}
use Rattle.script.specs.Number.{digit_on, leading_zero, read_number}
use Rattle.script.specs.Hex.{value_of, is_dash, spells, hex_count, hex_bytes}

-- `ab  c`: the field between two spaces is empty
second_field : field_of 1 (97 ∷ 98 ∷ 32 ∷ 32 ∷ 99 ∷ []) ≡ []
unfolding behind
second_field = refl

third_field : field_of 2 (97 ∷ 98 ∷ 32 ∷ 32 ∷ 99 ∷ []) ≡ 99 ∷ []
unfolding behind
third_field = refl

three_fields : parts (97 ∷ 98 ∷ 32 ∷ 32 ∷ 99 ∷ []) ≡ 3
three_fields = refl

-- 18446744073709551615, and one more than that
largest : read_number (49 ∷ 56 ∷ 52 ∷ 52 ∷ 54 ∷ 55 ∷ 52 ∷ 52 ∷ 48 ∷ 55 ∷ 51 ∷ 55 ∷ 48 ∷ 57 ∷ 53 ∷ 53 ∷ 49 ∷ 54 ∷ 49 ∷ 53 ∷ []) ≡ Some 18446744073709551615
unfolding read_number leading_zero digit_on
largest = refl

above : read_number (49 ∷ 56 ∷ 52 ∷ 52 ∷ 54 ∷ 55 ∷ 52 ∷ 52 ∷ 48 ∷ 55 ∷ 51 ∷ 55 ∷ 48 ∷ 57 ∷ 53 ∷ 53 ∷ 49 ∷ 54 ∷ 49 ∷ 54 ∷ []) ≡ None
unfolding read_number leading_zero digit_on
above = refl

-- `07`
led_by_zero : read_number (48 ∷ 55 ∷ []) ≡ None
unfolding read_number leading_zero digit_on
led_by_zero = refl

-- `0f` and `0F`
lower_case : hex_bytes 2 (48 ∷ 102 ∷ []) ≡ 15 ∷ []
unfolding hex_bytes is_dash spells value_of
lower_case = refl

upper_case : hex_count 2 (48 ∷ 70 ∷ []) ≡ None
unfolding hex_count is_dash spells value_of
upper_case = refl
