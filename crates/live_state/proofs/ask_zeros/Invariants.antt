use Rattle.std.proofs.Common.{◌≡◌, ◌≤◌}
use Rattle.live_state.proofs.StateLaws.{zeros_to}
use Rattle.live_state.proofs.ask_zeros.Given as goal

-- the numbers before this one are 0
abbrev pub invariant-loop-j : goal.invariant-loop-j
invariant-loop-j l = record { after : l.from ≤ l.j; before : zeros_to l.to l.state l.from ≡ zeros_to l.to l.state l.j }
