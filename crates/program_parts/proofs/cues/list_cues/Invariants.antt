use Rattle.std.proofs.Common.{length, ◌≡◌, ◌≤◌}
use Rattle.program_parts.proofs.cues.list_cues.Given as goal

abbrev pub invariant-loop : goal.invariant-loop
invariant-loop g l = (length l.state ≡ 64) × (l.at.used ≤ length l.picks)
