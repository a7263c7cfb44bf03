-- Past the first test both numbers are positive.
use mathlib.Core.Path.{◌≡◌}
use mathlib.Core.Bool.{false}
use lib.Signed.{lt_z}
use mir.Facts.{to_z-of_z}
use Rattle.rules.specs.Turns.{scale}
use Rattle.analysis_turns.proofs.figures.scale.Goals as goal

pub returns-then-e-t : goal.returns-then-e-t
unfolding scale
returns-then-e-t c = let fe = c.ranges.e in let ft = c.ranges.t in simp (simp to_z-of_z at c.if-e-t.true)

pub returns : goal.returns
unfolding scale
returns c =
    let fe = c.ranges.e in
    let ft = c.ranges.t in
    let l : lt_z c.args.e c.args.t ≡ false = simp to_z-of_z at c.if-e-t.false in
    simp (l, c.powers.ensures, to_z-of_z)
