use native.Mathlib.Omega.{arith}
use mathlib.Core.Path.{ap, ◌∙◌}
use lib.ListN.{length}
use Rattle.rules.specs.Report.{line_of, loop_line}
use Rattle.analysis_lines.proofs.Laws.{lent_room}
use Rattle.report.proofs.PiecesLaws.{measured_none, measured_more, measured_all}
use Rattle.report.specs.Lines.{loops_text}
use Rattle.report.proofs.Laws.{taken_loops, loop_taken}
use Rattle.report.proofs.loops_len.Goals as goal

pub loop-k-init : goal.loop-k-init
loop-k-init c = measured_none 340 _

pub loop-k-preserved : goal.loop-k-preserved
loop-k-preserved c =
    let n = taken_loops _ _ (lent_room _ _ c.requires) in
    measured_more 340 _ _ _ _ c.loop-k.invariant (omega (arith, n))
    (c.line_len-len.ensures.0 ∙ ap length (c.loop_line.ensures ∙ ap (λ l. loop_line (line_of l)) c.line_at.ensures ∙ loop_taken _ _ (lent_room _ _ c.requires) _ _ c.loop-k-test.true)) c.line_len-len.ensures.1

pub returns : goal.returns
unfolding loops_text
returns c =
    let m = c.loop-k.invariant in
    let n = taken_loops _ _ (lent_room _ _ c.requires) in
    (measured_all 340 _ _ _ m (omega (arith, n)), omega (arith, m.small, m.within, n))
