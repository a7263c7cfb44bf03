use Rattle.std.proofs.Common.{sym, ◌∙◌, ◌≡◌, arith, add-one}
use Rattle.expressions.proofs.LeavesLaws.{no_digit, no_byte, upto_more, upto_end}
use Rattle.expressions.proofs.leaves.digits_at.Goals as goal

pub returns-then-not-is_digit : goal.returns-then-not-is_digit
returns-then-not-is_digit c =
    let (a, b) = upto_end _ _ _ _ c.loop-i.invariant.0 (no_digit _ _ c.loop-i-test.true (sym c.is_digit.ensures ∙ c.if-not-is_digit.true)) in
    record { next = a; value = b }

pub loop-i-preserved : goal.loop-i-preserved
loop-i-preserved c = (rw add-one (upto_more _ _ _ _ c.loop-i.invariant.0 c.loop-i-test.true (sym c.is_digit.ensures ∙ c.if-not-is_digit.false) _ c.more-value.ensures), omega arith)

pub returns : goal.returns
returns c =
    let (a, b) = upto_end _ _ _ _ c.loop-i.invariant.0 (no_byte _ _ c.loop-i-test.false) in
    let e : c.max.result ≡ c.loop-i.i = omega arith in
    record { next = e ∙ a; value = b }
