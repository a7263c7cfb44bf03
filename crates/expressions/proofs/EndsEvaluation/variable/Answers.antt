use mir.Facts.{to_z-of_z}
use borrow.Author.Rules.{sfits_of}
use mir.Syntax.{w32}
use mir.Val.{SFits}
use Rattle.expressions.specs.Evaluating.{values_of}
use Rattle.expressions.proofs.EndsEvaluation.variable.Goals as goal

pub returns : goal.returns
unfolding values_of
returns c =
    let g0 : SFits w32 c.entry.result = sfits_of c.entry.type_inv in
    let g1 : SFits w32 c.entry-2.result = sfits_of c.entry-2.type_inv in
    rw (to_z-of_z g0, to_z-of_z g1, c.entry.ensures, c.entry-2.ensures)
