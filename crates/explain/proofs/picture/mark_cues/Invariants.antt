use Rattle.std.proofs.Common.{length, ◌≡◌, ◌≤◌}
use Rattle.explain.proofs.picture.mark_cues.Given as goal

abbrev pub invariant-loop : goal.invariant-loop
invariant-loop l = (length l.state ≡ 64) × (l.at.used ≤ length l.picks) × (l.lines ≤ 256)
