use Rattle.std.proofs.Common.{sym, ◌∙◌}
use Rattle.expressions.proofs.LeavesLaws.{whole_absent, whole_stopped, whole_leading, whole_found, digits_within}
use Rattle.expressions.proofs.leaves.whole_at.Goals as goal
use Rattle.expressions.proofs.leaves.whole_at.Goals.{then-digits-at-via-then-digits-at, then-digits-at-via-else-digits-at+then-not-at_mark}
use Rattle.expressions.proofs.leaves.whole_at.Goals.{else-s-at-eq48-via-then-s-at-eq48+else-at-digits, else-s-at-eq48-via-else-s-at-eq48}

pub returns-then-digits-at : goal.returns-then-digits-at
returns-then-digits-at c =
    let d = c.digits_at-digits.ensures in
    elim c.then-digits-at.branch [
      | then-digits-at-via-then-digits-at w ↦ whole_absent c.args.s.now c.args.at c.digits_at-digits.result d w.if-digits-at.true
      | then-digits-at-via-else-digits-at+then-not-at_mark w ↦ whole_stopped c.args.s.now c.args.at c.digits_at-digits.result d (sym w.at_mark.ensures ∙ w.if-not-at_mark.true)
    ]

pub bounds-s-at : goal.bounds-s-at
bounds-s-at c = digits_within _ _ _ c.digits_at-digits.ensures c.if-digits-at.false

pub returns-then-at-digits : goal.returns-then-at-digits
returns-then-at-digits c = whole_leading _ _ _ c.digits_at-digits.ensures c.if-at-digits.true c.if-s-at-eq48.true

pub returns : goal.returns
returns c = whole_found _ _ _ c.digits_at-digits.ensures c.if-digits-at.false (sym c.at_mark.ensures ∙ c.if-not-at_mark.false)
    (elim c.else-s-at-eq48.branch [
      | else-s-at-eq48-via-then-s-at-eq48+else-at-digits w ↦ λ z. w.if-at-digits.false
      | else-s-at-eq48-via-else-s-at-eq48 w ↦ λ z. absurd (w.if-s-at-eq48.false z)
    ])
