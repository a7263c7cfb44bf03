-- By what the limit is.
use mathlib.Core.Path.{ap, ◌∙◌}
use mathlib.Core.Bool.{not}
use Rattle.rules.specs.Blocks.{expr_of}
use Rattle.rules.specs.Trips.{keeps}
use Rattle.analysis_loops.proofs.ways.keeps.Goals as goal

pub returns-in-Constant : goal.returns-in-Constant
unfolding keeps expr_of
returns-in-Constant c = λ body h. rw c.in-Constant.is

pub returns-in-Variable : goal.returns-in-Variable
unfolding keeps expr_of
returns-in-Variable c = λ body h. rw c.in-Variable.is (ap not (c.contains.ensures ∙ h _))

pub returns-in-Expression : goal.returns-in-Expression
unfolding keeps expr_of
returns-in-Expression c = λ body h. rw c.in-Expression.is (c.word_keeps.ensures body h)
