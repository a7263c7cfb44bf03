-- A triangle's trip rises, and its limit's end moves with the limit.
use borrow.Author.Rules.{rules, sfits_of}
use mathlib.Core.Path.{ap, ◌∙◌}
use mir.Syntax.{w32, w64}
use mir.Val.{SFits}
use mir.Facts.{to_z-of_z}
use lib.IntN.{pos, ◌+ℤ◌, ◌*ℤ◌}
use Rattle.rules.specs.Ranges.{edge}
use Rattle.rules.specs.Turns.{climb}
use Rattle.rules.specs.Passes.{sum}
use Rattle.analysis_intervals.proofs.Small.{word, small}
use Rattle.analysis_ticks.proofs.Values.{sum_is, step_up, near_more}
use Rattle.analysis_ticks.proofs.passes.summed.Goals as goal

pub climbs-requires : goal.climbs-requires
climbs-requires c =
    let r = c.requires.0 in
    let a = c.args in
    let e = c.first_end.ensures in
    let f : SFits w32 a.trip.start.lo = search rules in
    let b : SFits w64 a.round.by = search rules in
    let h : SFits w64 c.edge-limit.result = sfits_of c.edge-limit.type_inv in
    let k : SFits w64 c.first_end.result = sfits_of c.first_end.type_inv in
    simp (c.from-2.ensures, to_z-of_z f, to_z-of_z (word _ f).a64, to_z-of_z h, to_z-of_z k, to_z-of_z b) (
      (small _ (word _ f).short).near,
      c.edge-limit.ensures.1,
      near_more _ e.1,
      rw e.0 (step_up a.trip.step a.trip.comparison r.add r.up r.suits),
      c.requires.1.near,
      c.requires.1.few,
    )

pub returns : goal.returns
returns c =
    let a = c.args in
    let f : SFits w32 a.trip.start.lo = search rules in
    let g : SFits w32 a.x = search rules in
    let b : SFits w64 a.round.by = search rules in
    let h : SFits w64 c.edge-limit.result = sfits_of c.edge-limit.type_inv in
    let k : SFits w64 c.first_end.result = sfits_of c.first_end.type_inv in
    let e = simp (c.from-2.ensures, to_z-of_z f, to_z-of_z (word _ f).a64, to_z-of_z h, to_z-of_z k, to_z-of_z b) at c.climbs.ensures in
    let n = simp (to_z-of_z g) at c.from.ensures.0 in
    let l = c.edge-limit.ensures.0 ∙ ap (edge a.trip.comparison) n in
    e ∙ (λ j. sum (λ i. climb (record { start = a.trip.start.lo; limit = l j +ℤ a.round.by *ℤ pos i; step = c.first_end.ensures.0 j })) 0 a.round.count)
    ∙ sum_is a.trip c.requires.0 a.x a.round.by a.round.count
