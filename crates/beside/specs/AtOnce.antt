-- RULES 7.16: copying and confirming on the same bytes is reading, for any bytes and any numbers; and the tail seen is never above the event.
use Rattle.std.specs.Prelude.{ℕ, ◌≤◌, Ok}
use mathlib.Core.{Path.◌≡◌, List.List}
use Rattle.reader_rules.specs.{Read.read_out, declared.Reader.Reader}
use Rattle.slip_rules.specs.{Copy.copy_out, Confirm.confirmed, AtOnce.pair_out, declared.Slip.Slip}
use Rattle.slip_rules.specs.declared.Copying.TheVariants.{Event}
use Rattle.slip_rules.specs.declared.Confirming.TheVariants.{Done}
use Rattle.comparison.specs.{Comparison.Half, Comparison.Promise3, Comparison.DemandBy3}

pub record Once (s : List ℕ) (reader : Reader) (out : List ℕ) : Type 0 where
  -- the answer, the record handed back and each byte of the output buffer
  pub same : pair_out s reader out ≡ read_out s reader out
  -- an event that was copied is confirmed
  pub done : (slip : Slip) → (copy_out s reader out).copied.answer ≡ Ok (Event slip) → (confirmed s reader slip).answer ≡ Ok Done

abbrev pub AtOnce : Type 0
AtOnce = (s : List ℕ) (reader : Reader) (out : List ℕ) → Once s reader out

-- so the third demand holds of rings that are emptied by the pair
abbrev pub PairDemand3 : Type 0
PairDemand3 = DemandBy3 pair_out Half Promise3

-- and AGAIN's two conditions are told apart only by a slip that no copying has handed out
abbrev pub TailSeen : Type 0
TailSeen =
    (s : List ℕ) (reader : Reader) (out : List ℕ) (slip : Slip) → (copy_out s reader out).copied.answer ≡ Ok (Event slip) →
    slip.tail_seen ≤ slip.position
