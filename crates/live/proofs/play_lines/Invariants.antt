use Rattle.std.proofs.Common.{length, ◌≡◌, ◌≤◌}
use Rattle.live.proofs.play_lines.Given as goal

abbrev pub invariant-loop : goal.invariant-loop
invariant-loop g l = (l.desk.1.0 ≤ 131_072) × (length l.picks ≡ 131_072)
