-- The sums of the ends of two Add steps fit.
use mir.Facts.{to_z-of_z}
use Rattle.rules_steps.specs.Joins.{then}
use Rattle.rules_steps.proofs.Near.{near_fits}
use Rattle.rules_steps.proofs.Step.then.Goals as goal

pub returns-in-Add-Add : goal.returns-in-Add-Add
unfolding then
returns-in-Add-Add c =
    let p = rw c.in-Add-Add.is-0 at c.requires.0 in
    let q = rw c.in-Add-Add.is-1 at c.requires.1 in
    let (fa, fc, fs) = near_fits p.0 q.0 in
    let (fb, fd, ft) = near_fits p.1 q.1 in
    rw (c.in-Add-Add.is-0, c.in-Add-Add.is-1) (simp to_z-of_z)
