-- Bytes written as a field are read back from it: a digit first (`digit_back`), and then byte by byte.
use Prim.Native.Nat.{ℕ, suc, ◌+◌, ◌*◌, ◌/◌, ◌%◌, ◌≤◌, ◌<◌}
use mathlib.Core.Path.{◌≡◌, refl, ap, ◌∙◌}
use mathlib.Core.Logic.{by_cases}
use mathlib.Core.Bool.{true}
use mathlib.Core.List.{List, [], ◌∷◌}
use native.Mathlib.Decide.{dec_lt}
use native.Mathlib.Omega.{arith}
use Rattle.std.specs.Prelude.{Some}
use lib.ListN.{length, get_or}
use Rattle.script.specs.Hex.{value_of, all_hex, is_dash, unhex, hex_count, hex_bytes, hex_digit, hex_text, hex_field}
use Rattle.script.proofs.Digits.{value_digit, value_letter, dash_other, digit_small, digit_large}
use Rattle.script.proofs.Pairs.{spells_digits, count_spelt, bytes_spelt, text_length}

digit_back : (value : ℕ) → value < 16 → value_of (hex_digit value) ≡ Some value
digit_back value h =
    by_cases (dec_lt value 10)
    (λ small. rw (digit_small value small, value_digit (48 + value) (omega arith) (omega arith)) (ap (λ (n : ℕ). Some n) (omega arith)))
    (λ large. rw (digit_large value (omega arith), value_letter (87 + value) (omega arith) (omega arith)) (ap (λ (n : ℕ). Some n) (omega arith)))

-- what the bytes of a slice are
Bytes : List ℕ → Type 0
Bytes bytes = (i : ℕ) → get_or bytes i 0 < 256

all_back : (bytes : List ℕ) → Bytes bytes → all_hex (hex_text bytes) ≡ true
unfolding Bytes
all_back [] below = refl
all_back (x ∷ xs) below =
    let byte : x < 256 = below 0 in
    rw (digit_back (x / 16) (omega arith), digit_back (x % 16) (omega arith)) (all_back xs (λ i. below (suc i)))

unhex_back : (bytes : List ℕ) → Bytes bytes → unhex (hex_text bytes) ≡ bytes
unfolding Bytes
unhex_back [] below = refl
unhex_back (x ∷ xs) below =
    let byte : x < 256 = below 0 in
    let whole : x / 16 * 16 + x % 16 ≡ x = omega arith in
    rw (digit_back (x / 16) (omega arith), digit_back (x % 16) (omega arith), whole, unhex_back xs (λ i. below (suc i))) refl

none_back : (room : ℕ) → (hex_count room (45 ∷ []) ≡ Some 0) × (hex_bytes room (45 ∷ []) ≡ [])
unfolding hex_count hex_bytes is_dash
none_back room = (refl, refl)

pub field_back : (room : ℕ) (bytes : List ℕ) → ((i : ℕ) → get_or bytes i 0 < 256) → length bytes ≤ room
    → (hex_count room (hex_field bytes) ≡ Some (length bytes)) × (hex_bytes room (hex_field bytes) ≡ bytes)
unfolding hex_field Bytes
field_back room [] below h = none_back room
field_back room (x ∷ xs) below h =
    let bytes = x ∷ xs in
    let count : length (hex_text bytes) ≡ 2 * length bytes = text_length bytes in
    let some : length (hex_text bytes) ≡ 0 → ⊥ = λ e. omega arith in
    let even : length (hex_text bytes) % 2 ≡ 1 → ⊥ = λ e. omega arith in
    let half : length (hex_text bytes) / 2 ≡ length bytes = omega arith in
    let dash = dash_other (hex_text bytes) (λ e. omega arith) in
    let spelt = spells_digits room (hex_text bytes) some even (omega arith) ∙ all_back bytes below in
    (count_spelt room (hex_text bytes) dash spelt ∙ ap (λ (n : ℕ). Some n) half, bytes_spelt room (hex_text bytes) dash spelt ∙ unhex_back bytes below)
