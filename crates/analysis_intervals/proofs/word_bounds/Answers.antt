-- The ends of what `bounds_in` finds fit.
use mir.Syntax.{w32}
use mir.Val.{SFits}
use mir.Facts.{to_z-of_z}
use Rattle.expressions.specs.Evaluating.{ends_of}
use Rattle.analysis_intervals.specs.Env.{env_of}
use Rattle.analysis_intervals.proofs.Words.{width}
use borrow.Author.Rules.{rules}
use Rattle.analysis_intervals.proofs.word_bounds.Goals as goal

pub returns : goal.returns
unfolding env_of ends_of
returns c =
    let v = c.bounds_in-v.result in
    let f : SFits w32 v.lo = search rules in
    let g : SFits w32 v.hi = search rules in
    simp (to_z-of_z f, to_z-of_z g) (rw (width _ _) at c.bounds_in-v.ensures)
