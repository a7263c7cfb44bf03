use Rattle.rules.specs.Report.{loop_lines}
use Rattle.analysis_lines.specs.Coded.{first_lines}
use Rattle.report.proofs.PiecesLaws.{Measured}
use Rattle.report.proofs.loops_len.Given as goal

abbrev pub invariant-loop-k : goal.invariant-loop-k
invariant-loop-k l = Measured 340 (loop_lines (first_lines l.lines l.loops)) l.len l.k
