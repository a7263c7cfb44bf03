use mir.Facts.{to_z-of_z}
use Rattle.ints.proofs.Parts.{ints}
use Rattle.ints.proofs.Shifts.{Unshifted, unshifted}
use Rattle.analysis_lines.proofs.end_in.Goals as goal

pub returns : goal.returns
returns c =
    let h : Unshifted 1_099_511_627_776 c.min.result = unshifted _ _ (omega ints) (rw c.min.ensures (omega ints)) in
    simp (to_z-of_z h.wide, to_z-of_z h.less) (rw c.min.ensures)
