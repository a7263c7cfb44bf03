use Rattle.calls.proofs.Laws.{Telling}
use Rattle.calls.proofs.figures.tell_lines.Given as goal

-- the lines before this one are told
abbrev pub invariant-loop-k : goal.invariant-loop-k
invariant-loop-k l = Telling l.k l.initial.lines l.lines
