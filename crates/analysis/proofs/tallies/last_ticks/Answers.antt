use mathlib.Core.Path.{sym, ap}
use Rattle.rules.specs.Blocks.{view_of, kind_of}
use Rattle.rules.specs.Figures.{price}
use Rattle.analysis_steps.specs.Tree.{head_of}
use Rattle.analysis.specs.Tallies.{last_ticks}
use Rattle.analysis.proofs.Laws.{no_last}
use Rattle.analysis.proofs.tallies.last_ticks.Goals as goal

pub returns-in-For : goal.returns-in-For
unfolding head_of view_of kind_of price
returns-in-For c = λ text. sym (ap (last_ticks text c.args.prices) c.in-For.is)

pub returns-in_default : goal.returns-in_default
returns-in_default c = λ text. no_last text c.args.prices c.args.kind c.in_default.not-For
