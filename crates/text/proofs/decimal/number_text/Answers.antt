-- Twenty bytes are room for every number of 64 bits (`decimal_twenty`); that its text reads back is `decimal_numeral`.
use native.Mathlib.Omega.{arith}
use Rattle.text.proofs.Numerals.{decimal_twenty, decimal_numeral}
use Rattle.text.proofs.Writing.{put_front}
use Rattle.text.proofs.decimal.number_text.Goals as goal

pub put_number-requires : goal.put_number-requires
put_number-requires c = omega (arith, decimal_twenty c.args.n (omega arith))

pub returns : goal.returns
returns c = let n = c.args.n in
    let front = put_front c.put_number.ensures (omega (arith, decimal_twenty n (omega arith))) in
    record { front = front; numeral = rw front.first (decimal_numeral n) }
