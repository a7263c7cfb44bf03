-- The sums of the limits left are to be added.
use native.Mathlib.Omega.{arith}
use mathlib.Core.Path.{◌≡◌}
use mir.Facts.{to_z-of_z}
use Rattle.rules.specs.Passes.{sum}
use Rattle.analysis_ticks.proofs.Values.{sum_first, sum_next, sum_end}
use Rattle.analysis_ticks.proofs.passes.climbs.Invariants.{term}
use Rattle.analysis_ticks.proofs.passes.climbs.Goals as goal

pub loop-i-init : goal.loop-i-init
loop-i-init c = (sum_first (term _ _ _ _) c.args.count, omega arith)

pub loop-i-preserved : goal.loop-i-preserved
loop-i-preserved c =
    let a = c.args in
    let v = simp (to_z-of_z c.ranges.start, to_z-of_z c.ranges.limit, to_z-of_z c.ranges.step, to_z-of_z c.ranges.by) at c.loop-i.invariant in
    let e = simp (to_z-of_z c.ranges.start, to_z-of_z c.ranges.limit, to_z-of_z c.ranges.step, to_z-of_z c.ranges.by) at c.climb_in-all.ensures in
    simp (to_z-of_z c.ranges.start, to_z-of_z c.ranges.limit, to_z-of_z c.ranges.step, to_z-of_z c.ranges.by)
    (omega (arith, v.0, e.0, sum_next (term a.start a.limit a.step a.by) a.count c.loop-i.i c.loop-i-test.true), omega (arith, v.1, e.1))

pub returns : goal.returns
returns c =
    let a = c.args in
    let v = simp (to_z-of_z c.ranges.start, to_z-of_z c.ranges.limit, to_z-of_z c.ranges.step, to_z-of_z c.ranges.by) at c.loop-i.invariant in
    let z : c.loop-i.all ≡ sum (term a.start a.limit a.step a.by) 0 a.count = omega (arith, v.0, sum_end (term a.start a.limit a.step a.by) a.count c.loop-i.i c.loop-i-test.false) in
    z
