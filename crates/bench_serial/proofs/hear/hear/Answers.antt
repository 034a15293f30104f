-- At each turn the rest heard now gives the whole's result: strides lead on (`stride_on`), then a step (`hears_on`); a refused one changes nothing.
use Rattle.std.proofs.Common.{◌≡◌, ◌+◌, ◌-◌, ◌^◌, ◌<◌, ◌≤◌, length, ◌∙◌, refl, arith, rules}
use Rattle.bench_serial.proofs.Heard.{Hears, hears_end, hears_within, hears_stuck, hears_whole, hears_on}
use Rattle.bench_serial.proofs.hear.hear.Goals.{After-step-s, After-stride_on-reached}
use Rattle.bench_serial.proofs.hear.hear.Goals as goal

-- behind the strides of a turn
led : (g : After-stride_on-reached)
    → Hears g.args.listener g.args.piece.now g.args.sum g.stride_on-reached.result.state g.stride_on-reached.result.at g.stride_on-reached.result.sum
led g =
    record {
      within = g.stride_on-reached.ensures.within.1;
      long = search rules;
      fits = omega arith;
      same = g.loop-at.invariant.same ∙ g.stride_on-reached.ensures.same;
    }

within : (c : After-step-s)
    → c.stride_on-reached.result.at + c.step-s.result.used ≤ length c.args.piece.now
within c = hears_within _ _ _ _ _ _ (led (goal.at.After-step-s c).After-stride_on-reached) _ c.step-s.ensures

-- a slice's length fits, and so does what lies within it
small : (c : After-step-s) → c.stride_on-reached.result.at + c.step-s.result.used < 2 ^ 64
small c = omega (arith, within c)

pub returns-then-at-piece : goal.returns-then-at-piece
returns-then-at-piece c = hears_end _ _ _ _ _ _ (led (goal.at.returns-then-at-piece c).After-stride_on-reached) (omega (arith, c.if-at-piece.true))

pub returns-then-s-eq0 : goal.returns-then-s-eq0
returns-then-s-eq0 c = hears_stuck _ _ _ _ _ _ (led (goal.at.returns-then-s-eq0 c).After-stride_on-reached) _ c.step-s.ensures c.if-s-eq0.true

pub report_number-total-requires : goal.report_number-total-requires
report_number-total-requires c = hears_whole _ _ _ _ _ _ (led (goal.at.report_number-total-requires c).After-stride_on-reached) _ c.step-s.ensures

pub overflow_add-at : goal.overflow_add-at
overflow_add-at c = omega (arith, within (goal.at.overflow_add-at c).After-step-s, small (goal.at.overflow_add-at c).After-step-s)

pub loop-at-preserved : goal.loop-at-preserved
loop-at-preserved c = hears_on _ _ _ _ _ _ (led (goal.at.loop-at-preserved c).After-stride_on-reached) _ c.step-s.ensures _ _
    c.if-s-eq0.false c.report_number-total.ensures refl

pub returns : goal.returns
returns c = hears_end _ _ _ _ _ _ c.loop-at.invariant c.loop-at-test.false
