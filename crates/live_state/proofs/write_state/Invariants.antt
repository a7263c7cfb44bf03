use Rattle.std.proofs.Common.{◌≡◌, length, take}
use Rattle.live_state.proofs.Writing.{Writing}
use Rattle.live_state.proofs.write_state.Given as goal

-- the numbers of the loops before this one are written
abbrev pub invariant-loop-k : goal.invariant-loop-k
invariant-loop-k l = record {
  front : length (take 16 l.initial.state) ≡ 16;
  written : Writing (take 16 l.initial.state) l.lines (record { count = l.many; counts = l.listed }) l.counts l.k l.state;
}
