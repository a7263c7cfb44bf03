-- `values::quotient_of` meets its contract. Assumes nothing.
use borrow.Author.Rules.{rules, sfits_of}
use native.Mathlib.Omega.{arith}
use mir.Facts.{to_z-of_z}
use Rattle.values.proofs.Wide.{wide}
use Rattle.values.proofs.quotient_of.Statement.{statement}
use Rattle.values.proofs.quotient_of.Tie as tie

cast-floor : tie.Need-overflow_cast-x
cast-floor c = let h = wide c.args.x c.args.c c.ranges.x c.ranges.c in search rules

floor-requires : tie.Need-floor-requires
floor-requires c κs = (c.requires, omega (arith, c.ranges.c))

returns : tie.Need-returns
returns c =
    let s = c.before in
    let h = wide s.args.x s.args.c s.ranges.x s.ranges.c in
    rw (to_z-of_z (sfits_of c.floor.type_inv), c.floor.ensures) (simp (to_z-of_z h.x32, to_z-of_z h.x64))

pub quotient_of_spec : {M : Type 1} → statement M
quotient_of_spec = tie.close (tie.spec cast-floor floor-requires returns)
