use Rattle.std.proofs.Common.{length, ◌≡◌, ◌≤◌}
use Rattle.program_parts.proofs.asks.ask_picks.Given as goal

abbrev pub invariant-loop : goal.invariant-loop
invariant-loop g l =
    (length l.state ≡ 64) × (length l.initial.state ≡ 64) × (length l.store ≡ length l.initial.store) × (length l.picks ≡ length l.initial.picks)
    × (l.lent ≤ l.count) × (l.count ≤ length l.picks)
