-- The sums, products and quotients fit, and are small.
use borrow.Author.Rules.{sfits_of}
use mathlib.Core.Path.{refl}
use native.Mathlib.Omega.{arith}
use borrow.Author.Tests.{leb-true}
use mir.Syntax.{w64}
use mir.Val.{SFits}
use mir.Facts.{to_z-of_z}
use Rattle.rules_steps.specs.Joins.{factor_limit}
use Rattle.rules.specs.Steps.{moving}
use Rattle.rules.specs.Turns.{moved}
use Rattle.analysis_intervals.proofs.Small.{small}
use Rattle.analysis_turns.proofs.MovesLaws.{summed, scaled}
use Rattle.analysis_turns.proofs.figures.moved.Goals as goal

pub overflow_add-result : goal.overflow_add-result
overflow_add-result c =
    let e = rw c.in-Add.is at c.requires.0 in
    let k = summed _ _ c.requires.2.low e.0 in
    simp (to_z-of_z (small _ c.requires.2.low).a64, to_z-of_z k.a64) k.sum

pub overflow_add-result-in-Add : goal.overflow_add-result-in-Add
overflow_add-result-in-Add c =
    let e = rw c.in-Add.is at c.requires.0 in
    let k = summed _ _ c.requires.2.high e.1 in
    simp (to_z-of_z (small _ c.requires.2.high).a64, to_z-of_z k.a64) k.sum

pub overflow_cast-result : goal.overflow_cast-result
unfolding factor_limit
overflow_cast-result c = let e = rw c.in-Grow.is at c.requires.0 in (scaled _ _ c.requires.2.low e.first).f64

pub overflow_cast-result-in-Grow : goal.overflow_cast-result-in-Grow
unfolding factor_limit
overflow_cast-result-in-Grow c = let e = rw c.in-Grow.is at c.requires.0 in (scaled _ _ c.requires.2.low e.first).f64

pub overflow_mul-result : goal.overflow_mul-result
unfolding factor_limit
overflow_mul-result c =
    let e = rw c.in-Grow.is at c.requires.0 in
    let k = scaled _ _ c.requires.2.low e.first in
    simp (to_z-of_z (small _ c.requires.2.low).a64, to_z-of_z k.f64) k.product

pub overflow_mul-result-in-Grow : goal.overflow_mul-result-in-Grow
unfolding factor_limit
overflow_mul-result-in-Grow c =
    let e = rw c.in-Grow.is at c.requires.0 in
    let k = scaled _ _ c.requires.2.high e.first in
    simp (to_z-of_z (small _ c.requires.2.high).a64, to_z-of_z k.f64) k.product

pub floor-requires : goal.floor-requires
unfolding factor_limit moving
floor-requires c =
    let e = rw c.in-Shrink.is at c.requires.0 in
    let m = rw c.in-Shrink.is at c.requires.1 in
    omega (arith, leb-true _ _ m, e.first)

pub floor-requires-in-Shrink : goal.floor-requires-in-Shrink
unfolding factor_limit moving
floor-requires-in-Shrink c =
    let e = rw c.in-Shrink.is at c.requires.0 in
    let m = rw c.in-Shrink.is at c.requires.1 in
    omega (arith, leb-true _ _ m, e.first)

pub returns-in-Add : goal.returns-in-Add
unfolding moved
returns-in-Add c =
    let e = rw c.in-Add.is at c.requires.0 in
    let k = summed _ _ c.requires.2.low e.0 in
    let l = summed _ _ c.requires.2.high e.1 in
    rw c.in-Add.is
    (simp (to_z-of_z (small _ c.requires.2.low).a64, to_z-of_z (small _ c.requires.2.high).a64, to_z-of_z k.a64, to_z-of_z l.a64, to_z-of_z k.sum, to_z-of_z l.sum) (refl, record { low = k.near; high = l.near }))

pub returns-in-Grow : goal.returns-in-Grow
unfolding moved factor_limit
returns-in-Grow c =
    let e = rw c.in-Grow.is at c.requires.0 in
    let k = scaled _ _ c.requires.2.low e.first in
    let l = scaled _ _ c.requires.2.high e.first in
    rw c.in-Grow.is (simp (to_z-of_z (small _ c.requires.2.low).a64, to_z-of_z (small _ c.requires.2.high).a64, to_z-of_z k.f64, to_z-of_z k.product, to_z-of_z l.product) (refl, tt))

pub returns-in-Shrink : goal.returns-in-Shrink
unfolding moved factor_limit
returns-in-Shrink c =
    let e = rw c.in-Shrink.is at c.requires.0 in
    let l = scaled _ _ c.requires.2.high e.first in
    let p : SFits w64 c.floor.result = sfits_of c.floor.type_inv in
    let q : SFits w64 c.floor-in-Shrink.result = sfits_of c.floor-in-Shrink.type_inv in
    let a = simp (to_z-of_z (small _ c.requires.2.low).a64) at c.floor.ensures in
    let b = simp (to_z-of_z (small _ c.requires.2.high).a64) at c.floor-in-Shrink.ensures in
    rw c.in-Shrink.is (simp (to_z-of_z p, to_z-of_z q) (simp (a, b) (refl, l.near)))
