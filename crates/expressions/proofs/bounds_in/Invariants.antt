use Rattle.std.proofs.Common.{◌≤◌, ◌-◌}
use Rattle.expressions.proofs.Filling.{Filled, low_of, high_of}
use Rattle.expressions.proofs.bounds_in.Given as goal

abbrev pub invariant-loop-i : goal.invariant-loop-i
invariant-loop-i l = (l.i ≤ 16) × Filled (low_of l.ranges) l.i l.los × Filled (high_of l.ranges) l.i l.his

abbrev pub decreases-loop-i : goal.decreases-loop-i
decreases-loop-i l = 16 - l.i
