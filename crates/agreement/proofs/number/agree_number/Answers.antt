-- Bytes that say the number are its own (`word_agrees`); else they are counted, and neither has fewer (`agreeing_within`).
use native.Mathlib.Omega.{arith}
use mathlib.Core.Path.{sym, ◌∙◌}
use Rattle.difference_rules.proofs.Agreeing.{agreeing_within}
use Rattle.agreement.specs.Word.{word_of}
use Rattle.agreement.proofs.Steps.{word_length, word_agrees}
use Rattle.agreement.proofs.number.agree_number.Goals as goal

pub returns-then-get-value : goal.returns-then-get-value
returns-then-get-value c = let a = c.args in record {
  count = sym (word_agrees a.value a.bytes.now (λ k. (c.type_inv.bytes k).fits) (omega arith)
      (sym c.get.ensures ∙ c.if-get-value.true));
  within = (omega arith, omega arith);
}

pub returns : goal.returns
returns c = let a = c.args in
    let count = c.agree_byte_by_byte.ensures in
    let most = agreeing_within (word_of a.value) a.bytes.now in
    record { count = count; within = (omega (arith, count, most.0, word_length a.value), omega (arith, count, most.1)) }
