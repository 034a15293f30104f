use Prim.Native.Nat.{ℕ, ◌/◌, ◌%◌, ◌<◌}
use native.Mathlib.Omega.{arith}
use mathlib.Core.Path.{◌≡◌, sym, ap, ◌∙◌}
use mathlib.Core.Logic.{inl, inr}
use lib.ListN.{get_or}
use Rattle.difference_rules.proofs.Agreeing.{agreeing_is}
use Rattle.agreement.specs.Word.{word_of}
use Rattle.agreement.proofs.Steps.{alike_one, word_length, word_byte, one_byte_up}
use Rattle.agreement.proofs.number.agree_byte_by_byte.Goals.{At-loop-i}
use Rattle.agreement.proofs.number.agree_byte_by_byte.Goals as goal

-- the number's next byte
next : (c : At-loop-i) → c.loop-i.i < 8 → get_or (word_of c.args.value) c.loop-i.i 0 ≡ c.loop-i.rest % 256
next c below = word_byte c.args.value c.loop-i.i below ∙ ap (λ (n : ℕ). n % 256) (sym c.loop-i.invariant.0)

pub returns-then-bytes-i : goal.returns-then-bytes-i
returns-then-bytes-i c = sym (agreeing_is _ _ c.loop-i.i c.loop-i.invariant.1 (inr (λ e. c.if-bytes-i.true (sym e ∙ next (goal.at.returns-then-bytes-i c).At-loop-i (omega arith)))))

pub loop-i-preserved : goal.loop-i-preserved
loop-i-preserved c = let a = c.args in
    let i : ℕ = c.loop-i.i in
    let more = alike_one (word_of a.value) a.bytes.now i c.loop-i.invariant.1 (omega (arith, word_length a.value)) (omega arith)
    (next (goal.at.loop-i-preserved c).At-loop-i (omega arith) ∙ sym c.if-bytes-i.false) in
    (ap (λ (n : ℕ). n / 256) c.loop-i.invariant.0 ∙ one_byte_up a.value i, more)

pub returns : goal.returns
returns c = let a = c.args in
    let done : c.loop-i.i ≡ c.min-common.result = omega arith in
    sym (agreeing_is _ _ c.loop-i.i c.loop-i.invariant.1 (inl (omega (arith, word_length a.value))) ∙ done)
