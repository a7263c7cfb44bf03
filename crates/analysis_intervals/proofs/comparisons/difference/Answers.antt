-- The ends of both steps and their differences fit.
use lib.IntN.{ℤ, ◌-ℤ◌}
use mir.Syntax.{w64}
use mir.Val.{SFits}
use mir.Facts.{to_z-of_z}
use Rattle.ints.proofs.Parts.{ints, minus_parts}
use Rattle.rules_steps.specs.Ends.{Near}
use Rattle.rules.specs.Steps.{difference}
use Rattle.analysis_intervals.proofs.comparisons.difference.Goals as goal

fit : (x y : ℤ) → Near 256 x → Near 256 y → SFits w64 x × SFits w64 y × SFits w64 (x -ℤ y)
fit x y h k = (omega ints, omega ints, omega (ints, minus_parts x y))

pub returns-in-Add-Add : goal.returns-in-Add-Add
unfolding difference
returns-in-Add-Add c =
    let p = rw c.in-Add-Add.is-0 at c.requires.0 in
    let q = rw c.in-Add-Add.is-1 at c.requires.1 in
    let (fa, fd, fs) = fit _ _ p.0 q.1 in
    let (fb, fc, ft) = fit _ _ p.1 q.0 in
    rw (c.in-Add-Add.is-0, c.in-Add-Add.is-1) (simp to_z-of_z)
