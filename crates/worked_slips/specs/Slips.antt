-- RULES 7.13 to 7.17: copying and confirming on rings whose bytes are written out: the record of a lapped reader, AGAIN's two conditions told apart, each
-- condition of 13 alone, and a record made up by hand, which no promise speaks of.
use Rattle.std.specs.Prelude.{ℕ, Result, Ok, Err}
use Rattle.table_rules.specs.declared.Refusal.{Refusal}
use mathlib.Core.{Path.◌≡◌, List.List, List.[], List.◌∷◌, List.◌++◌, List.map}
use lib.{ListN.set, ListN.replicate}
use Rattle.table_rules.specs.declared.Refusal.TheVariants.{Reader as refusalReader}
use Rattle.emit_rules.specs.{Emit.emission, declared.Outcome.TheVariants.Done as emissionDone}
use Rattle.reader_rules.specs.{Reader.reader_with, declared.Reader.Reader}
use Rattle.slip_rules.specs.{Copy.copy_out, Confirm.confirmed, declared.Slip.Slip, declared.Copying.Copying, declared.Confirming.Confirming}
use Rattle.slip_rules.specs.declared.Copying.TheVariants.{Event as copyingEvent, Empty as copyingEmpty, Moved as copyingMoved}
use Rattle.slip_rules.specs.declared.Confirming.TheVariants.{Done as confirmingDone, Again as confirmingAgain}
use Rattle.worked_bytes.specs.{Worked.laid, Worked.header_bytes, Worked.example_label, Worked.bare, Worked.double, Worked.tally, Worked.starting}

-- a slip of event 2, of 32 bytes, by its position and the tail seen
abbrev pub slip_at : ℕ → ℕ → Slip
slip_at position seen = record { position = position; size = 32; sequence = 2; tail_seen = seen }

-- the fresh ring with other positions and no event at all: a confirmation looks at the page alone
abbrev pub positioned : ℕ → ℕ → List ℕ
positioned tail write = set (set bare 64 write) 72 tail

abbrev pub Copies : List ℕ → Reader → Result Copying Refusal → Reader → List ℕ → Type 0
Copies ring reader answer after out = copy_out ring reader (replicate 40 0xFF) ≡ record { copied = record { answer = answer; reader = after }; out = out }

-- where the tail is now `tail`, and 224 write_pos
abbrev pub Confirms : ℕ → Reader → Slip → Result Confirming Refusal → Reader → Type 0
Confirms tail reader slip answer after = confirmed (positioned tail 224) reader slip ≡ record { answer = answer; reader = after }

-- one that stands at 32 and was handed event 1
abbrev pub handed_first : Reader
handed_first = reader_with 32 1 1 1

-- one event, 1, whose payload is what event 9 would be
abbrev pub enclosing : List ℕ
enclosing = set (laid (header_bytes 64 1 ++ header_bytes 32 9)) 64 64

abbrev pub enclosed : Slip
enclosed = record { position = 32; size = 32; sequence = 9; tail_seen = 0 }

pub record WorkedSlips : Type 0 where
  -- 7.13: of a lapped reader too the record stays as it came, where there is an event; where there is none it shows the place
  pub copies_lapped : Copies (double (header_bytes 160 3)) (starting 0) (Ok (copyingEvent (slip_at 32 32))) (starting 0) (header_bytes 32 2 ++ replicate 8 0xFF)
  pub copies_none : Copies (positioned 64 64) (starting 0) (Ok copyingEmpty) (starting 64) (replicate 40 0xFF)
  pub copies_moved : Copies (set (positioned 64 64) 32 2) (starting 0) (Ok copyingMoved) (starting 64) (replicate 40 0xFF)
  -- 7.15: the event is there still; it has gone
  pub confirms : Confirms 32 (starting 0) (slip_at 32 32) (Ok confirmingDone) (reader_with 64 2 1 1)
  pub starts_over : Confirms 64 (starting 0) (slip_at 32 32) (Ok confirmingAgain) (starting 64)
  -- .. the tail is above the position and not above the tail seen, which copying puts in no slip; above the tail seen and not the position; above both
  pub above_the_position : Confirms 64 (starting 0) (slip_at 32 64) (Ok confirmingDone) (reader_with 64 2 1 1)
  pub above_the_tail_seen : Confirms 64 (starting 0) (slip_at 64 32) (Ok confirmingDone) (reader_with 96 2 1 1)
  pub above_both : Confirms 96 (starting 0) (slip_at 32 64) (Ok confirmingAgain) (starting 96)
  -- 7.14: refusal 13, each condition by one alone: position, size, end, an end above 2^64, sequence
  pub slips_refused : map (λ (slip : Slip). confirmed (positioned 32 224) handed_first slip)
      (slip_at 31 32
      ∷ record { position = 32; size = 31; sequence = 2; tail_seen = 32 }
      ∷ slip_at 193 32
      ∷ record { position = 64; size = 18446744073709551615; sequence = 2; tail_seen = 32 }
      ∷ record { position = 32; size = 32; sequence = 1; tail_seen = 32 }
      ∷ [])
      ≡ replicate 5 (record { answer = Err refusalReader; reader = handed_first })
  -- .. an end that is 32 if the sum wraps
  pub past_the_word : Confirms 32 handed_first (record { position = 18446744073709551584; size = 64; sequence = 2; tail_seen = 32 })
      (Err refusalReader) handed_first
  -- .. and none of them: at read_pos, and up to write_pos
  pub first_place : Confirms 32 handed_first (slip_at 32 32) (Ok confirmingDone) (reader_with 64 2 2 1)
  pub last_place : Confirms 32 handed_first (slip_at 192 32) (Ok confirmingDone) (reader_with 224 2 2 1)
  -- a record made up by hand, which points into the payload of the only event: what is copied and confirmed no emission stored as an event
  pub encloses : emission bare (tally 0 0) example_label (header_bytes 32 9)
      ≡ record { answer = record { outcome = Ok emissionDone; writer = tally 1 0 }; ring = enclosing }
  pub copies_enclosed : Copies enclosing handed_first (Ok (copyingEvent enclosed)) handed_first (header_bytes 32 9 ++ replicate 8 0xFF)
  pub confirms_enclosed : confirmed enclosing handed_first enclosed ≡ record { answer = Ok confirmingDone; reader = reader_with 64 9 2 1 }
