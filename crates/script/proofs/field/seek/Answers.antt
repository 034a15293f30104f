-- The bytes counted are those before the first `byte` (`up_to_length`).
use mathlib.Core.Path.{◌∙◌}
use mathlib.Core.Bool.{not}
use native.Mathlib.Omega.{arith}
use Rattle.std.proofs.lemmas.Slice.{between_to_end}
use lib.Dec.{eqb}
use lib.ListN.{length, drop}
use Rattle.std.proofs.Common.{rules, tests}
use Rattle.std.proofs.lemmas.Iterator.{YieldsList-from_slice}
use Rattle.std.proofs.lemmas.Iterator.Consumers.{count_from_yields_List}
use Rattle.std.proofs.lemmas.Iterator.Search.{YieldsList-from_take_while}
use Rattle.std.proofs.lemmas.List.Folds.{length-prefix_len}
use Rattle.script.proofs.Fields.{up_to_length}
use Rattle.script.proofs.field.seek.Goals as goal

pub returns-clause-place : goal.returns-clause-place
returns-clause-place c =
    let text = drop c.args.at c.args.text.now in
    let byte = c.args.byte in
    let counted = count_from_yields_List c.take_while.result c.count.result c.count.ensures.ran
    (YieldsList-from_take_while _ (λ x. not (eqb x byte)) (YieldsList-from_slice text (cc (between_to_end c.args.text.now c.args.at (length c.args.text.now) (omega arith))))
    c.take_while.ensures.closure c.take_while.ensures.done
    (λ x b q h. search (rules, tests))) in
    omega (arith, counted ∙ length-prefix_len (λ x. not (eqb x byte)) text ∙ up_to_length byte text)
