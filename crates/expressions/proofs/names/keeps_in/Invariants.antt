use Rattle.std.proofs.Common.{false, ◌-◌, length, get_or}
use Rattle.expressions.proofs.Keeping.{Unnamed}
use Rattle.expressions.proofs.names.keeps_in.Given as goal

abbrev pub invariant-loop-i : goal.invariant-loop-i
invariant-loop-i l = Unnamed (λ w. get_or l.set w false) l.word l.i

abbrev pub decreases-loop-i : goal.decreases-loop-i
decreases-loop-i l = length l.word - l.i
