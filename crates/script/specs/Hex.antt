-- tests/second/README.md, decision 6: bytes are pairs of the digits 0-9a-f, or `-` for none. Definitions alone: nothing is assumed.
use Rattle.std.specs.Prelude.{ℕ, ◌+◌, ◌-◌, ◌*◌, ◌/◌, ◌%◌, Option, Some, None, is_some, unwrap_or}
use mathlib.Core.{Bool.Bool, Bool.false, Bool.cond, List.List, List.[], List.◌∷◌}
use lib.{Dec.ltb, Dec.eqb, ListN.length, ListN.get_or}
use Rattle.std.specs.List.{list_all}

-- the value of a digit: 48 to 57 are 0 to 9, 97 to 102 are a to f
unfoldable pub value_of : ℕ → Option ℕ
value_of byte = cond (ltb byte 48) None (cond (ltb byte 58) (Some (byte - 48)) (cond (ltb byte 97) None (cond (ltb byte 103) (Some (byte - 87)) None)))

abbrev pub all_hex : List ℕ → Bool
all_hex field = list_all (λ byte. is_some (value_of byte)) field

unfoldable pub is_dash : List ℕ → Bool
is_dash field = cond (eqb (length field) 1) (eqb (get_or field 0 0) 45) false

-- one to `room` pairs of digits
unfoldable pub spells : ℕ → List ℕ → Bool
spells room field = cond (eqb (length field) 0) false (cond (eqb (length field % 2) 1) false (cond (ltb room (length field / 2)) false (all_hex field)))

-- the value of what is known to be a digit
abbrev pub digit : ℕ → ℕ
digit byte = unwrap_or (value_of byte) 0

-- the bytes of pairs of digits
abbrev pub unhex : List ℕ → List ℕ
unhex [] = []
unhex (high ∷ []) = []
unhex (high ∷ low ∷ digits) = (digit high * 16 + digit low) ∷ unhex digits

-- how many bytes a field spells, where at most `room` are taken
unfoldable pub hex_count : ℕ → List ℕ → Option ℕ
hex_count room field = cond (is_dash field) (Some 0) (cond (spells room field) (Some (length field / 2)) None)

-- and which
unfoldable pub hex_bytes : ℕ → List ℕ → List ℕ
hex_bytes room field = cond (is_dash field) [] (cond (spells room field) (unhex field) [])

unfoldable pub hex_digit : ℕ → ℕ
hex_digit value = cond (ltb value 10) (48 + value) (87 + value)

abbrev pub hex_text : List ℕ → List ℕ
hex_text [] = []
hex_text (byte ∷ bytes) = hex_digit (byte / 16) ∷ hex_digit (byte % 16) ∷ hex_text bytes

-- bytes as a field
unfoldable pub hex_field : List ℕ → List ℕ
hex_field [] = 45 ∷ []
hex_field (byte ∷ bytes) = hex_text (byte ∷ bytes)
