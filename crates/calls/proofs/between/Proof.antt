-- `calls::between` meets its contract. Assumes nothing.
use mathlib.Core.Path.{◌≡◌}
use mathlib.Core.Bool.{true, false}
use lib.Signed.{le_z}
use mir.Facts.{to_z-of_z}
use Rattle.calls.proofs.between.Statement.{statement}
use Rattle.calls.proofs.between.Tie as tie

returns : tie.Need-returns-then-lo-x
returns c =
    let f = c.ranges in
    let t : le_z c.args.lo c.args.x ≡ true = simp (to_z-of_z f.lo, to_z-of_z f.x) at c.if-lo-x.true in
    rw t (simp (to_z-of_z f.x, to_z-of_z f.hi))

returns_2 : tie.Need-returns-else-lo-x
returns_2 c =
    let f = c.ranges in
    let t : le_z c.args.lo c.args.x ≡ false = simp (to_z-of_z f.lo, to_z-of_z f.x) at c.if-lo-x.false in
    rw t c.if-lo-x.false

pub between_spec : {M : Type 1} → statement M
between_spec = tie.close (tie.spec returns returns_2)
