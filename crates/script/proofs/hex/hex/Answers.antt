-- A field that spells bytes has at most as many pairs as there is room for (`spelling`).
use mathlib.Core.Path.{sym, ◌∙◌}
use Rattle.script.proofs.Pairs.{spelling}
use Rattle.script.proofs.hex.hex.Goals as goal

pub returns-clause-bound : goal.returns-clause-bound
returns-clause-bound c = (spelling _ _ (sym c.is_pairs.ensures ∙ c.if-not-is_pairs.false)).fits
