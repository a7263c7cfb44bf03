use Rattle.std.proofs.Common.{◌≡◌}
use Rattle.diftanew.specs.Numbers.{loop_numbers}
use Rattle.diftanew.proofs.put_counts.Given as goal

-- the counts of the loops before this one are there
abbrev pub invariant-loop-k : goal.invariant-loop-k
invariant-loop-k l = l.numbers ≡ loop_numbers l.first l.k l.counts l.initial.numbers
