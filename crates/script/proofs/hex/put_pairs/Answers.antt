use native.Mathlib.Omega.{arith}
use mathlib.Core.Path.{◌≡◌, sym, ap, ◌∙◌}
use mathlib.Core.List.{[], ◌∷◌}
use Prim.Native.Nat.{ℕ, ◌+◌, ◌*◌}
use lib.ListN.{drop}
use Rattle.std.specs.Prelude.{Option, unwrap_or}
use Rattle.script.specs.Hex.{value_of, digit, unhex}
use Rattle.text.proofs.Remaining.{put_whole, put_rest, put_done}
use Rattle.text.proofs.Writing.{put_one}
use Rattle.script.proofs.Pairs.{spelling, unhex_turn, unhex_end, pair_digits}
use Rattle.script.proofs.hex.put_pairs.Goals as goal

told : (byte : ℕ) {value : ℕ} {o : Option ℕ} → o ≡ value_of byte → value ≡ unwrap_or o 0 → digit byte ≡ value
told byte e f = sym (f ∙ ap (λ (o : Option ℕ). unwrap_or o 0) e)

pub loop-i-init : goal.loop-i-init
loop-i-init c = record { digits = (spelling _ _ c.requires).digits; left = put_whole _ _ _ }

pub bounds-out-i : goal.bounds-out-i
bounds-out-i c = omega (arith, (spelling _ _ c.requires).fits)

pub loop-i-preserved : goal.loop-i-preserved
loop-i-preserved c = let field = c.args.field.now in
    let i = c.loop-i.i in
    let high = told _ c.digit_value.ensures.value c.unwrap_or-high.ensures in
    let low = told _ c.digit_value-in-loop-i.ensures.value c.unwrap_or-low.ensures in
    let left = rw (unhex_turn field i (omega arith), high, low) at c.loop-i.invariant.left in
    let byte = c.unwrap_or-high.result * 16 + c.unwrap_or-low.result in
    record {
      digits = (pair_digits field i (omega arith) c.loop-i.invariant.digits).2;
      left = put_rest {a = byte ∷ []} {b = unhex (drop (2 * (i + 1)) field)} left (put_one _ _ _);
    }

pub returns : goal.returns
returns c = let even = (spelling _ _ c.requires).even in
    (put_done (rw (unhex_end c.args.field.now c.loop-i.i (omega arith)) at c.loop-i.invariant.left)).bytes
