use borrow.Author.Rules.{rules}
use mir.Syntax.{w64}
use mir.Val.{SFits}
use mir.Facts.{to_z-of_z}
use Rattle.rules.specs.Report.{sign}
use Rattle.report.proofs.Laws.{below_sign, above_sign}
use Rattle.report.proofs.end_sign.Goals as goal

pub returns-then-z-lt0 : goal.returns-then-z-lt0
returns-then-z-lt0 c =
    let f : SFits w64 c.in-Change.z = search rules in
    rw c.in-Change.is (below_sign _ (simp (to_z-of_z f) at c.if-z-lt0.true))

pub returns-else-z-lt0 : goal.returns-else-z-lt0
returns-else-z-lt0 c =
    let f : SFits w64 c.in-Change.z = search rules in
    rw c.in-Change.is (above_sign _ (simp (to_z-of_z f) at c.if-z-lt0.false))

pub returns-in-Factor : goal.returns-in-Factor
unfolding sign
returns-in-Factor c = rw c.in-Factor.is
