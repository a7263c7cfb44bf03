use Rattle.std.proofs.Common.{rules}
use Rattle.expressions.proofs.Evaluating.{end_term, plus_term, minus_term, no_term}
use Rattle.expressions.proofs.operators.sum_at.Goals as goal

pub returns-then-at-text : goal.returns-then-at-text
returns-then-at-text c = end_term _ _ c.if-at-text.true

pub returns-in-43 : goal.returns-in-43
returns-in-43 c = (plus_term _ _ c.if-at-text.false c.in-43.is, c.if-at-text.false)

pub returns-in-45 : goal.returns-in-45
returns-in-45 c = (minus_term _ _ c.if-at-text.false c.in-45.is, c.if-at-text.false)

pub returns-in_default : goal.returns-in_default
returns-in_default c = no_term _ _ c.if-at-text.false (search rules) (search rules)
