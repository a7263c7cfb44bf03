use Rattle.std.proofs.Common.{◌+◌, ◌-◌, ◌*◌, length}
use Rattle.rules.specs.Parse.{after_term, after_factor, read_expression, read_term, read_factor}
use Rattle.rules.proofs.Parsing.{term_is, expression_is}
use Rattle.expressions.proofs.Evaluating.{ChainBegun}
use Rattle.expressions.proofs.+expression_factor_term.Given as goal

-- the unread length; at the same place an expression calls a term, and a term a factor
abbrev pub decreases-expression : goal.decreases-expression
decreases-expression g l = 3 * (length l.text.now - l.at) + 2

abbrev pub decreases-factor : goal.decreases-factor
decreases-factor g l = 3 * (length l.text.now - l.at)

abbrev pub decreases-term : goal.decreases-term
decreases-term g l = 3 * (length l.text.now - l.at) + 1

abbrev pub invariant-expression-loop-operator : goal.invariant-expression-loop-operator
invariant-expression-loop-operator g l = ChainBegun g.E.Evaluation.numbers (g.E.Evaluation.variables l.e) l.text (read_term (λ x. x)) after_term read_expression expression_is l.at l.before l.from

abbrev pub decreases-expression-loop-operator : goal.decreases-expression-loop-operator
decreases-expression-loop-operator g l = length l.text - l.from

abbrev pub invariant-term-loop-operator : goal.invariant-term-loop-operator
invariant-term-loop-operator g l = ChainBegun g.E.Evaluation.numbers (g.E.Evaluation.variables l.e) l.text read_factor after_factor read_term term_is l.at l.before l.from

abbrev pub decreases-term-loop-operator : goal.decreases-term-loop-operator
decreases-term-loop-operator g l = length l.text - l.from
