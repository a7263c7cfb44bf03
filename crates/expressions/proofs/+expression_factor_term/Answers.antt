use Rattle.std.proofs.Common.{add-one, arith}
use Rattle.expressions.proofs.Evaluating.{goes, stops, factor_atom, factor_group}
use Rattle.expressions.proofs.+expression_factor_term.Goals as goal
use Rattle.expressions.proofs.+expression_factor_term.Goals.{factor-else-at-text-via-then-at-text+else-text-at-eq40, factor-else-at-text-via-else-at-text}

pub expression-loop-operator-preserved : goal.expression-loop-operator-preserved
expression-loop-operator-preserved g t c = rw add-one (goes _ _ _ _ _ _ _ c.loop-operator.invariant c.term-part.ensures c.joined-value.ensures _ c.in-Some.ensures.0)

pub expression-returns-in-None : goal.expression-returns-in-None
expression-returns-in-None g t c = stops _ _ _ _ _ _ _ c.loop-operator.invariant c.term-part.ensures c.joined-value.ensures c.in-None.ensures

pub factor-returns-then-text-at-eq40 : goal.factor-returns-then-text-at-eq40
factor-returns-then-text-at-eq40 g t c = rw c.shut.ensures (factor_group _ _ _ _ c.if-at-text.true c.if-text-at-eq40.true (rw add-one at c.expression-got.ensures))

pub factor-returns : goal.factor-returns
factor-returns g t c =
    factor_atom _ _ c.args.text.now c.args.at
    (elim c.else-at-text.branch [
      | factor-else-at-text-via-then-at-text+else-text-at-eq40 w ↦ λ l e. w.if-text-at-eq40.false e
      | factor-else-at-text-via-else-at-text w ↦ λ l e. absurd (omega (arith, l, w.if-at-text.false))
    ])
    c.operand.ensures

pub term-loop-operator-preserved : goal.term-loop-operator-preserved
term-loop-operator-preserved g t c = rw add-one (goes _ _ _ _ _ _ _ c.loop-operator.invariant c.factor-part.ensures c.joined-value.ensures _ c.in-Some.ensures.0)

pub term-returns-in-None : goal.term-returns-in-None
term-returns-in-None g t c = stops _ _ _ _ _ _ _ c.loop-operator.invariant c.factor-part.ensures c.joined-value.ensures c.in-None.ensures
