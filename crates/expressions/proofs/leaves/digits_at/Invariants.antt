use Rattle.std.proofs.Common.{◌≤◌, max, length}
use Rattle.expressions.proofs.LeavesLaws.{Upto}
use Rattle.expressions.proofs.leaves.digits_at.Given as goal

abbrev pub invariant-loop-i : goal.invariant-loop-i
invariant-loop-i l = Upto l.s l.at l.value l.i × (l.i ≤ max l.at (length l.s))
