use Rattle.std.proofs.Common.{◌≡◌, ◌<◌, refl, ap, ◌∙◌, add-one, arith, rules}
use mir.Syntax.{w32}
use mir.Val.{SFits}
use mir.Facts.{to_z-of_z}
use Rattle.rules.specs.Evaluate.{range_in, evaluated}
use Rattle.rules.specs.Parse.{expr_in, parse}
use Rattle.rules.proofs.Evaluate.{evaluated_range}
use Rattle.expressions.specs.Evaluating.{ends_of}
use Rattle.expressions.proofs.Filling.{filled_none, filled_more, filled_ends, low_of, high_of}
use Rattle.expressions.proofs.bounds_in.Goals as goal

pub loop-i-init : goal.loop-i-init
loop-i-init c = (omega arith, filled_none _ _ refl, filled_none _ _ refl)

pub loop-i-preserved : goal.loop-i-preserved
loop-i-preserved c =
    let r = c.args.ranges.now in
    let h : c.loop-i.i < 16 = search rules in
    let f0 : SFits w32 (low_of r c.loop-i.i) = search rules in
    let f1 : SFits w32 (high_of r c.loop-i.i) = search rules in
    simp (to_z-of_z f0, to_z-of_z f1, add-one) (omega arith, filled_more _ _ _ _ c.loop-i.invariant.1 h refl, filled_more _ _ _ _ c.loop-i.invariant.2 h refl)

pub returns : goal.returns
returns c =
    let s = c.args in
    let n = c.requires.1 in
    let e : c.loop-i.i ≡ 16 = omega (arith, c.loop-i.invariant.0, c.loop-i-test.false) in
    let x = expr_in (parse s.text.now) in
    ap range_in c.evaluate.ensures ∙ (λ t. range_in (evaluated (filled_ends s.ranges.now n _ _ (rw e at c.loop-i.invariant.1) (rw e at c.loop-i.invariant.2) t) x)) ∙ evaluated_range (ends_of s.ranges.now) x
