-- What a comparison of numbers tells of bytes: two halves that are equal make equal wholes (`halves`), and equal numbers are equal bytes (`alike_more`).
use Prim.Native.Nat.{ℕ, ◌+◌, ◌-◌, ◌*◌, ◌/◌, ◌%◌, ◌^◌, ◌≤◌, ◌<◌}
use native.Mathlib.Nat.{zero-add, pow-suc, div-div-eq-div-mul}
use native.Mathlib.Numerals.{add-one}
use native.Mathlib.Decide.{dec_lt}
use native.Mathlib.Omega.{arith}
use mathlib.Core.Path.{◌≡◌, sym, ap, ap₂, ◌∙◌}
use mathlib.Core.Logic.{inl}
use mathlib.Core.List.{List}
use lib.ListN.{length, get_or, replicate}
use Rattle.word_rules.specs.Number.{number, put}
use Rattle.word_rules.proofs.Reading.{number_split, number_byte, same_bytes}
use Rattle.word_rules.proofs.Writing.{length_put, put_byte}
use Rattle.difference_rules.specs.Difference.{agreeing}
use Rattle.difference_rules.proofs.Facts.{Alike}
use Rattle.difference_rules.proofs.Agreeing.{agreeing_is}
use Rattle.agreement.specs.Word.{word_of}

pub halves : (a b : List ℕ) (at n m : ℕ) → number a at n ≡ number b at n → number a (at + n) m ≡ number b (at + n) m
    → number a at (n + m) ≡ number b at (n + m)
halves a b at n m low high =
    number_split a at n m ∙ ap₂ (λ (x y : ℕ). x + y * 256 ^ n) low high ∙ sym (number_split b at n m)

-- so many bytes more
pub alike_more : (a b : List ℕ) (i n : ℕ) → ((k : ℕ) → get_or a k 0 < 256) → ((k : ℕ) → get_or b k 0 < 256) → Alike a b i
    → i + n ≤ length a → i + n ≤ length b → number a i n ≡ number b i n → Alike a b (i + n)
alike_more a b i n small tiny h room room' e = record {
  within = room;
  within' = room';
  each = λ k below.
      elim (dec_lt k i) [
        | yes before ↦ h.each k before
        | no later ↦
            let there : i + (k - i) ≡ k = omega arith in
            ap (λ (j : ℕ). get_or a j 0) (sym there) ∙ same_bytes a b i i n small tiny e (k - i) (omega arith) ∙ ap (λ (j : ℕ). get_or b j 0) there
      ];
}

-- one byte more
pub alike_one : (a b : List ℕ) (i : ℕ) → Alike a b i → i < length a → i < length b → get_or a i 0 ≡ get_or b i 0 → Alike a b (i + 1)
alike_one a b i h room room' e = record {
  within = omega arith;
  within' = omega arith;
  each = λ k below.
      elim (dec_lt k i) [
        | yes before ↦ h.each k before
        | no later ↦
            let here : k ≡ i = omega arith in
            ap (λ (j : ℕ). get_or a j 0) here ∙ e ∙ ap (λ (j : ℕ). get_or b j 0) (sym here)
      ];
}

-- ---- a number's eight bytes

pub word_length : (value : ℕ) → length (word_of value) ≡ 8
unfolding word_of
word_length value = length_put (replicate 8 0) 0 8 value

pub word_byte : (value i : ℕ) → i < 8 → get_or (word_of value) i 0 ≡ value / 256 ^ i % 256
unfolding word_of
word_byte value i below = ap (λ (k : ℕ). get_or (put (replicate 8 0) 0 8 value) k 0) (sym (zero-add i)) ∙ put_byte (replicate 8 0) 0 8 value i (omega arith) below

-- bytes that say the number are its own
pub word_agrees : (value : ℕ) (bytes : List ℕ) → ((k : ℕ) → get_or bytes k 0 < 256) → 8 ≤ length bytes → number bytes 0 8 ≡ value → agreeing (word_of value) bytes ≡ 8
word_agrees value bytes small room is =
    agreeing_is (word_of value) bytes 8
    (record {
      within = omega (arith, word_length value);
      within' = room;
      each = λ k below.
          word_byte value k below
          ∙ ap (λ (n : ℕ). n / 256 ^ k % 256) (sym is)
          ∙ number_byte bytes 0 8 k small below
          ∙ ap (λ (i : ℕ). get_or bytes i 0) (zero-add k);
    })
    (inl (omega (arith, word_length value)))

-- what is left of a number above its lowest bytes, and one byte fewer of it
pub one_byte_up : (value i : ℕ) → value / 256 ^ i / 256 ≡ value / 256 ^ (i + 1)
one_byte_up value i = div-div-eq-div-mul value (256 ^ i) 256 ∙ ap (λ (n : ℕ). value / n) (sym (rw add-one (pow-suc 256 i)))
