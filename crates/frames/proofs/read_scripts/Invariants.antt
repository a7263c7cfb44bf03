use Rattle.std.proofs.Common.{◌*◌, ◌≤◌}
use Rattle.frames.proofs.read_scripts.Given as goal

abbrev pub invariant-loop-k : goal.invariant-loop-k
invariant-loop-k g l = (l.all.file ≤ 16_385 * l.k) × (l.all.picks ≤ 131_072) × (l.all.values ≤ 17 * l.k)
