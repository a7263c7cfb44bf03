use Rattle.std.proofs.Common.{◌≡◌, length, take, drop}
use Rattle.live_state.specs.Numbers.{counts_in}
use Rattle.live_state.proofs.counts_in.Given as goal

-- the counts of the loops before this one are there
abbrev pub invariant-loop-k : goal.invariant-loop-k
invariant-loop-k l = record { long : length l.counts ≡ 16; before : take l.k l.counts ≡ counts_in l.k (drop 16 l.state) }
