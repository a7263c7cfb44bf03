use Rattle.std.proofs.Common.{◌≡◌, sym, ◌∙◌, true, false, rules}
use borrow.Author.Rules.{sfits_of}
use mir.Facts.{to_z-of_z}
use mir.Syntax.{w32, w64}
use mir.Val.{SFits}
use Rattle.rules.specs.Expressions.{operate}
use Rattle.rules.specs.Values.{in_limits}
use Rattle.expressions.specs.Operators.{in_run}
use Rattle.expressions.proofs.OperatorsLaws.{limits_fit}
use Rattle.expressions.proofs.operators.operated.Goals as goal

pub returns-in_err-a : goal.returns-in_err-a
unfolding in_run
returns-in_err-a c = rw (c.from_residual.ensures, c.in_err-a.was)

pub returns-in_err-b : goal.returns-in_err-b
unfolding in_run
returns-in_err-b c = rw (c.from_residual-in_err-b.ensures, c.in_ok-a.was, c.in_err-b.was)

pub overflow_cast-result : goal.overflow_cast-result
overflow_cast-result c =
    let g : SFits w64 c.operate-z.result = sfits_of c.operate-z.type_inv in
    rw (to_z-of_z g) (limits_fit _ (simp (to_z-of_z g) at (sym c.within.ensures ∙ c.if-within.true)))

pub returns-then-within : goal.returns-then-within
unfolding in_run
returns-then-within c =
    let g : SFits w64 c.operate-z.result = sfits_of c.operate-z.type_inv in
    let f0 : SFits w32 c.in_ok-a.field-0 = search rules in
    let f1 : SFits w32 c.in_ok-b.field-0 = search rules in
    let e : c.operate-z.result ≡ operate c.args.operator c.in_ok-a.field-0 c.in_ok-b.field-0 = simp (to_z-of_z f0, to_z-of_z f1) at c.operate-z.ensures in
    let yes : in_limits c.operate-z.result ≡ true = simp (to_z-of_z g) at (sym c.within.ensures ∙ c.if-within.true) in
    rw (c.in_ok-a.was, c.in_ok-b.was, to_z-of_z g, to_z-of_z (limits_fit _ yes), ← e, yes)

pub returns-else-within : goal.returns-else-within
unfolding in_run
returns-else-within c =
    let g : SFits w64 c.operate-z.result = sfits_of c.operate-z.type_inv in
    let f0 : SFits w32 c.in_ok-a.field-0 = search rules in
    let f1 : SFits w32 c.in_ok-b.field-0 = search rules in
    let e : c.operate-z.result ≡ operate c.args.operator c.in_ok-a.field-0 c.in_ok-b.field-0 = simp (to_z-of_z f0, to_z-of_z f1) at c.operate-z.ensures in
    let not_in : in_limits c.operate-z.result ≡ false = simp (to_z-of_z g) at (sym c.within.ensures ∙ c.if-within.false) in
    rw (c.in_ok-a.was, c.in_ok-b.was, ← e, not_in)
