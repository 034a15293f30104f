-- A confirmation asks 1 to 6 and compares the two positions: number by number as the page holds them, and of the generation whether it is 0.
use Prim.Native.Nat.{ℕ, ◌+◌, ◌≤◌}
use native.Mathlib.Omega.{arith}
use mathlib.Core.Path.{◌≡◌, sym, ◌∙◌}
use mathlib.Core.Logic.{inl, inr, ⊎_elim}
use mathlib.Core.Bool.{true, false}
use mathlib.Core.List.{List}
use lib.Dec.{eqb}
use borrow.Author.Tests.{eq-eqb, ne_eqb, eqb-true, eqb-false}
use Rattle.table_rules.proofs.Tests.{either}
use Rattle.word_rules.specs.Number.{number}
use Rattle.word_rules.proofs.Reading.{number_same}
use Rattle.page_rules.specs.Page.{mark, page_of, too_short, wrong_mark, wrong_version, filled, spoiled, wrong_layout, wrong_length, wrong_position, page_rows, on_ring}
use Rattle.page_rules.proofs.Mark.{differs_same}
use Rattle.reader_rules.specs.Reader.{ahead, wrong_reader}
use Rattle.reader_rules.specs.declared.Reader.{Reader}
use Rattle.slip_rules.specs.Confirm.{wrong_slip, gone, confirm_opened, confirmed}
use Rattle.slip_rules.specs.declared.Slip.{Slip}
use Rattle.looked_at.specs.LookedAt.{AgreeButGeneration}

module _ {s t : List ℕ} (g : AgreeButGeneration s t) where
  below : (at n : ℕ) → at + n ≤ 32 → number t at n ≡ number s at n
  below at n low = number_same t s at at n (λ i l. g.bytes (at + i) (inl (omega arith)))

  above : (at n : ℕ) → 40 ≤ at → at + n ≤ 192 → number t at n ≡ number s at n
  above at n high low = number_same t s at at n (λ i l. g.bytes (at + i) (inr (omega arith, omega arith)))

  mark_same : wrong_mark t ≡ wrong_mark s
  unfolding wrong_mark
  mark_same = differs_same s t 0 mark (λ i l. g.bytes (0 + i) (inl (omega arith)))

  zero_same : eqb (number t 32 8) 0 ≡ eqb (number s 32 8) 0
  unfolding page_of
  zero_same =
      ⊎_elim
      (λ (e : eqb (number s 32 8) 0 ≡ true). eq-eqb _ _ (g.zero.1 (eqb-true _ _ e)) ∙ sym e)
      (λ (e : eqb (number s 32 8) 0 ≡ false). ne_eqb _ _ (λ z. eqb-false _ _ e (g.zero.0 z)) ∙ sym e)
      (either (eqb (number s 32 8) 0))

  rows_same : page_rows t ≡ page_rows s
  unfolding page_rows page_of too_short wrong_version filled spoiled wrong_layout wrong_length wrong_position
  rows_same =
      rw (g.long, mark_same, below 8 4 (omega arith), below 14 2 (omega arith), below 16 8 (omega arith), below 24 8 (omega arith), zero_same)
      (rw (above 40 24 (omega arith) (omega arith), above 64 8 (omega arith) (omega arith), above 72 8 (omega arith) (omega arith))
      (rw (above 80 48 (omega arith) (omega arith), above 132 60 (omega arith) (omega arith))))

  pub confirmed_same : (reader : Reader) (slip : Slip) → confirmed t reader slip ≡ confirmed s reader slip
  unfolding on_ring page_of confirmed confirm_opened wrong_reader ahead wrong_slip gone
  confirmed_same reader slip = rw (rows_same, above 64 8 (omega arith) (omega arith), above 72 8 (omega arith) (omega arith))
