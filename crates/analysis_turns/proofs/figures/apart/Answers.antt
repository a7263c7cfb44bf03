-- The distance divided by the step.
use borrow.Author.Rules.{rules}
use lib.IntN.{pos, negsuc}
use mir.Syntax.{w64}
use mir.Val.{SFits}
use mir.Facts.{to_z-of_z, sfits_lit}
use Rattle.ints.proofs.Parts.{ints, eq_z_no}
use Rattle.rules.specs.Turns.{apart}
use Rattle.analysis_turns.proofs.figures.apart.Goals as goal

pub returns-else-a-eqminus1 : goal.returns-else-a-eqminus1
unfolding apart
returns-else-a-eqminus1 c =
    let a = c.args in
    let f : SFits w64 a.n.lo = search rules in
    let g : SFits w64 a.s.lo = search rules in
    let m : SFits w64 (negsuc 0) = omega ints in
    rw (c.unsigned_abs.ensures.value, c.abs_diff-else-a-eqminus1.ensures, eq_z_no a.a (pos 1) c.ranges.a (sfits_lit tt) c.if-a-eq1.false, eq_z_no a.a (negsuc 0) c.ranges.a m c.if-a-eqminus1.false)
    (simp (to_z-of_z f, to_z-of_z g, to_z-of_z c.ranges.a))
