use Rattle.analysis_steps.proofs.Sets.{Joined}
use Rattle.analysis_steps.proofs.variable_set.VariableSet.extend.Given as goal

abbrev pub invariant-loop-i : goal.invariant-loop-i
invariant-loop-i l = Joined l.initial.self l.more l.i l.self
