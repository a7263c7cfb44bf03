-- The limit of pass i fits.
use native.Mathlib.Omega.{arith}
use lib.IntN.{pos, ◌+ℤ◌, ◌*ℤ◌}
use mir.Facts.{to_z-of_z}
use Rattle.analysis_ticks.proofs.Values.{limit_at, term_few, near_far, far_more}
use Rattle.analysis_ticks.proofs.passes.climb_in.Goals as goal

pub overflow_cast-i : goal.overflow_cast-i
overflow_cast-i c = (limit_at c.args.limit c.args.by c.args.i c.requires.2 c.requires.5 (omega (arith, c.requires.0))).count

pub overflow_mul-by : goal.overflow_mul-by
overflow_mul-by c = let l = limit_at c.args.limit c.args.by c.args.i c.requires.2 c.requires.5 (omega (arith, c.requires.0)) in simp (to_z-of_z l.by64, to_z-of_z l.count) l.product

pub overflow_add-limit : goal.overflow_add-limit
overflow_add-limit c =
    let l = limit_at c.args.limit c.args.by c.args.i c.requires.2 c.requires.5 (omega (arith, c.requires.0)) in
    simp (to_z-of_z c.ranges.limit, to_z-of_z l.by64, to_z-of_z l.count, to_z-of_z l.product) l.sum

pub climb-requires : goal.climb-requires
climb-requires c =
    let l = limit_at c.args.limit c.args.by c.args.i c.requires.2 c.requires.5 (omega (arith, c.requires.0)) in
    simp (to_z-of_z c.ranges.start, to_z-of_z c.ranges.step, to_z-of_z c.ranges.limit, to_z-of_z l.by64, to_z-of_z l.count, to_z-of_z l.product, to_z-of_z l.sum) (near_far _ c.requires.1, far_more _ l.near, c.requires.3, c.requires.4)

pub returns : goal.returns
returns c =
    let a = c.args in
    let l = limit_at a.limit a.by a.i c.requires.2 c.requires.5 (omega (arith, c.requires.0)) in
    let e = simp (to_z-of_z c.ranges.start, to_z-of_z c.ranges.step, to_z-of_z c.ranges.limit, to_z-of_z l.by64, to_z-of_z l.count, to_z-of_z l.product, to_z-of_z l.sum) at c.climb.ensures in
    (e, omega (arith, e, term_few (record { start = a.start; limit = a.limit +ℤ a.by *ℤ pos a.i; step = a.step }) c.requires.1 l.near))
