use Rattle.std.proofs.Common.{arith}
use Rattle.expressions.proofs.Evaluating.{more_factor, no_factor}
use Rattle.expressions.proofs.operators.times_at.Goals as goal
use Rattle.expressions.proofs.operators.times_at.Goals.{else-at-text-via-then-at-text+else-text-at-eq42, else-at-text-via-else-at-text}

pub returns-then-text-at-eq42 : goal.returns-then-text-at-eq42
returns-then-text-at-eq42 c = (more_factor _ _ c.if-at-text.true c.if-text-at-eq42.true, c.if-at-text.true)

pub returns : goal.returns
returns c =
    no_factor c.args.text.now c.args.at
    (elim c.else-at-text.branch [
      | else-at-text-via-then-at-text+else-text-at-eq42 w ↦ λ h e. w.if-text-at-eq42.false e
      | else-at-text-via-else-at-text w ↦ λ h e. absurd (omega (arith, h, w.if-at-text.false))
    ])
