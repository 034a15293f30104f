-- Turn by turn: what is left of the piece, fed to the listener that has come out so far, leaves what the whole piece does (`feed_step`); a step that uses
-- nothing was refused (`feed_idle`), and with nothing left the listener stays (`feed_empty`).
use Prim.Native.Nat.{ℕ, ◌+◌, ◌-◌, ◌≤◌, ◌<◌}
use native.Mathlib.Omega.{arith}
use mathlib.Core.Path.{◌≡◌, sym, ap, ◌∙◌}
use mathlib.Core.List.{List}
use lib.ListN.{length, drop, length-drop}
use lib.Seq.{drop-drop, take_all}
use Rattle.serial_rules.specs.Feed.{feed}
use Rattle.serial_rules.specs.Step.{stepped}
use Rattle.serial_rules.specs.declared.Step.{Step}
use Rattle.serial_rules.specs.Feed.{Fed}
use Rattle.serial_rules.proofs.Feeding.{feed_empty, feed_idle, step_within, step_keeps, feed_step}
use Rattle.replay_serial.proofs.take.Goals.{After-step-s}
use Rattle.replay_serial.proofs.take.Goals as goal

-- what the step was given
abbrev part : After-step-s → List ℕ
part c = drop c.loop-at.at c.args.piece.now

part_length : (c : After-step-s) → length (part c) ≡ length c.args.piece.now - c.loop-at.at
part_length c = length-drop c.loop-at.at c.args.piece.now

some : (c : After-step-s) → 0 < length (part c)
some c = omega (arith, part_length c)

step_is : (c : After-step-s) → c.step-s.result ≡ stepped c.loop-at.listener (part c)
step_is c = c.step-s.ensures ∙ ap (stepped c.loop-at.listener) (take_all (length c.args.piece.now - c.loop-at.at) (part c) (omega (arith, part_length c)))

used_is : (c : After-step-s) → (stepped c.loop-at.listener (part c)).used ≡ c.step-s.result.used
used_is c = ap (λ (s : Step). s.used) (sym (step_is c))

within : (c : After-step-s) → c.loop-at.at + c.step-s.result.used ≤ length c.args.piece.now
within c = omega (arith, used_is c, part_length c, step_within c.loop-at.listener (part c) c.loop-at.invariant.1 (some c))

again : (c : After-step-s) → (c.step-s.result.used ≡ 0 → ⊥)
    → (c.loop-at.at + c.step-s.result.used ≤ length c.args.piece.now)
    × (length c.step-s.result.listener.kept ≡ 32)
    × ((feed c.args.l c.args.piece.now).listener
    ≡ (feed c.step-s.result.listener (drop (c.loop-at.at + c.step-s.result.used) c.args.piece.now)).listener)
again c uses =
    let heard = c.loop-at.listener in
    let long : length heard.kept ≡ 32 = c.loop-at.invariant.1 in (
      within c,
      ap (λ (s : Step). length s.listener.kept) (step_is c) ∙ step_keeps heard (part c) long (some c),
      c.loop-at.invariant.2
          ∙ ap (λ (fed : Fed). fed.listener) (feed_step heard (part c) long (some c) (λ (none : (stepped heard (part c)).used ≡ 0). uses (sym (used_is c) ∙ none)))
          ∙ ap (λ (s : Step). (feed s.listener (drop s.used (part c))).listener) (sym (step_is c))
          ∙ ap (λ (rest : List ℕ). (feed c.step-s.result.listener rest).listener) (drop-drop c.step-s.result.used c.loop-at.at c.args.piece.now),
    )

pub returns-then-s-eq0 : goal.returns-then-s-eq0
returns-then-s-eq0 c =
    let s = (goal.at.returns-then-s-eq0 c).After-step-s in
    let turn = c.loop-at.invariant in
    sym (turn.2 ∙ ap (λ (fed : Fed). fed.listener) (feed_idle c.loop-at.listener (part s) turn.1 (some s) (used_is s ∙ c.if-s-eq0.true)))

pub overflow_add-at : goal.overflow_add-at
overflow_add-at c = omega (arith, within (goal.at.overflow_add-at c).After-step-s)

pub loop-at-smaller : goal.loop-at-smaller
loop-at-smaller c = omega (arith, within (goal.at.loop-at-smaller c).After-step-s)

pub loop-at-preserved : goal.loop-at-preserved
loop-at-preserved c = again (goal.at.loop-at-preserved c).After-step-s c.if-s-eq0.false

pub returns : goal.returns
returns c = let l = c.loop-at in
    let piece = c.args.piece.now in
    let rest = drop l.at piece in
    sym (l.invariant.2 ∙ ap (λ (fed : Fed). fed.listener) (feed_empty l.listener rest (omega (arith, length-drop l.at piece))))
