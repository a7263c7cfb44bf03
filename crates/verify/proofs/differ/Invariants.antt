use Rattle.std.proofs.Common.{◌+◌, ◌≤◌}
use Rattle.verify.proofs.differ.Given as goal

abbrev pub invariant-loop-at : goal.invariant-loop-at
invariant-loop-at l = (l.line.number ≤ l.at + 1) × (l.line.start ≤ l.at)
