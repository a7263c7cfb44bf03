-- `breaks::leaf_at` meets its contract.
use mathlib.Core.Path.{ap, ◌∙◌}
use Rattle.line_causes.specs.Breaks.{is_leaf}
use Rattle.line_causes.proofs.Laws.{leaf_part}
use Rattle.line_causes.proofs.breaks.leaf_at.Goals as goal

pub returns : goal.returns
returns c = c.is_leaf.ensures ∙ ap is_leaf (leaf_part c.args.t.now c.args.at _ c.to_mark.ensures.value)
