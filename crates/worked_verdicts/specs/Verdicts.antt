-- RULES 10.8, 10.9: recordings, written out byte by byte as the tables have it, checked against rings that are.
use mathlib.Core.{Path.◌≡◌, List.List, List.[], List.◌∷◌, List.◌++◌}
use Rattle.std.specs.Prelude.{ℕ, Some, None, Ok, Err}
use lib.{ListN.set}
use Rattle.table_rules.specs.declared.Refusal.TheVariants.{Damaged}
use Rattle.verification_rules.specs.{Verify.verified}
use Rattle.worked_bytes.specs.{Worked.header_bytes, Worked.bare, Worked.double, Worked.opening_bytes, Worked.closing_bytes, Worked.seventh, Worked.around}

-- the recording of `around`, by the missed that its closing tells
abbrev pub of_around : ℕ → List ℕ
of_around missed = opening_bytes 3 2 ++ (seventh ++ closing_bytes 1 missed)

pub record WorkedVerdicts : Type 0 where
  -- 67 bytes, over the data's end, with 6 missed
  pub passes : verified around (of_around 6) ≡ Ok None
  pub passes_empty : verified bare (opening_bytes 3 0 ++ closing_bytes 0 0) ≡ Ok None
  -- the cpu_id's high byte; the first byte behind the data's end, which is the event's byte 16; the payload's last
  pub in_the_opening : verified around (set (of_around 6) 6 3) ≡ Ok (Some 6)
  pub behind_the_datas_end : verified around (set (of_around 6) 24 0) ≡ Ok (Some 24)
  pub in_the_payload : verified around (set (of_around 6) 42 0) ≡ Ok (Some 42)
  -- the counts are the ring's, and not the file's own
  pub other_count : verified around (of_around 5) ≡ Ok (Some 59)
  -- of two differences the first
  pub first_of_two : verified around (set (of_around 5) 42 0) ≡ Ok (Some 42)
  -- where one only goes on longer, the shorter length
  pub no_byte : verified around [] ≡ Ok (Some 0)
  pub no_closing : verified around (opening_bytes 3 2 ++ seventh) ≡ Ok (Some 43)
  pub one_more : verified around (of_around 6 ++ (0 ∷ [])) ≡ Ok (Some 67)
  -- the ring is inspected first
  pub damaged : verified (double (set (header_bytes 160 3) 4 31)) [] ≡ Err (Damaged (record { position = 64; reason = 2 }))
