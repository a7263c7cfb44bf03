-- The passes of a loop that sums.
use borrow.Author.Rules.{rules, sfits_of}
use mathlib.Core.Path.{sym, ◌∙◌}
use mir.Syntax.{w32, w64}
use mir.Val.{SFits}
use mir.Facts.{to_z-of_z}
use Rattle.analysis_ticks.proofs.Values.{body_adds, body_yes, body_no}
use Rattle.analysis_ticks.proofs.passes.body.Goals as goal

pub first_end-requires : goal.first_end-requires
first_end-requires c = let a = c.args in (c.requires.0, body_adds a.trip a.v a.turns a.total a.round (sym c.sums.ensures ∙ c.if-sums.true))

pub returns-then-sums : goal.returns-then-sums
returns-then-sums c =
    let a = c.args in
    let f : SFits w64 c.first_end.result = sfits_of c.first_end.type_inv in
    let g : SFits w32 a.trip.start.lo = search rules in
    simp (to_z-of_z f, to_z-of_z g) (body_yes a.trip a.v a.turns a.total a.round (sym c.sums.ensures ∙ c.if-sums.true) c.requires.1 _ c.times.ensures _ c.first_end.ensures.0 c.first_end.ensures.1)

pub returns-else-sums : goal.returns-else-sums
returns-else-sums c = let a = c.args in rw c.branch-round.ensures.0 (body_no a.trip a.v a.turns a.total a.round (sym c.sums.ensures ∙ c.if-sums.false) c.requires.1 c.requires.2)
