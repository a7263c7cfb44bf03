use Rattle.rules.specs.Report.{loop_lines}
use Rattle.analysis_lines.specs.Coded.{first_lines}
use Rattle.report.proofs.PiecesLaws.{Writing}
use Rattle.report.proofs.put_loops.Given as goal

abbrev pub invariant-loop-k : goal.invariant-loop-k
invariant-loop-k l = Writing (loop_lines (first_lines l.lines l.loops)) l.initial.buffer l.buffer l.at l.k
