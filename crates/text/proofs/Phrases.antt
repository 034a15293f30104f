-- The room that phrases take: that of their two parts (`length-append`), of which a number below 2^64 has at most twenty digits (`decimal_twenty`).
use Prim.Native.Nat.{ℕ, ◌+◌, ◌^◌, ◌≤◌, ◌<◌}
use native.Mathlib.Omega.{arith}
use mathlib.Core.Path.{◌≡◌}
use mathlib.Core.List.{List, [], ◌∷◌}
use lib.ListN.{length, length-append}
use Rattle.text.specs.Decimal.{decimal}
use Rattle.text.specs.Phrase.{numbered, worded}
use Rattle.text.specs.Put.{Put}
use Rattle.text.proofs.Numerals.{decimal_twenty}

pub numbered_length : (n byte : ℕ) → length (numbered n byte) ≡ length (decimal n) + 1
unfolding numbered
numbered_length n byte = length-append (decimal n) (byte ∷ [])

pub worded_length : (word : List ℕ) (n : ℕ) → length (worded word n) ≡ length word + length (decimal n)
unfolding worded
worded_length word n = length-append word (decimal n)

pub worded_fits : (word : List ℕ) (n : ℕ) → n < 2 ^ 64 → length (worded word n) ≤ length word + 20
worded_fits word n small = omega (arith, worded_length word n, decimal_twenty n small)

-- where a word and a number end that were put from `at` on
pub worded_end : (word : List ℕ) (n : ℕ) {l : List ℕ} {at : ℕ} {m : List ℕ} {next : ℕ} → Put l at (worded word n) m next → n < 2 ^ 64 → next ≤ at + length word + 20
worded_end word n put small = omega (arith, put.place, worded_fits word n small)
