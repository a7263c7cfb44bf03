use Rattle.std.proofs.Common.{◌≡◌}
use Rattle.live_state.proofs.StateLaws.{loops_on}
use Rattle.live_state.proofs.ask_loops.Given as goal

-- the loops before this one have yes
abbrev pub invariant-loop-k : goal.invariant-loop-k
invariant-loop-k l = loops_on l.lines l.loops l.state 0 ≡ loops_on l.lines l.loops l.state l.k
