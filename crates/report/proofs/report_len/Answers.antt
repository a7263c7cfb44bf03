use native.Mathlib.Omega.{arith}
use mathlib.Core.Path.{ap, ◌∙◌}
use lib.ListN.{length}
use Rattle.rules.specs.Report.{key_line, ticks_key}
use Rattle.analysis_lines.specs.Coded.{lines_in}
use Rattle.analysis_lines.proofs.Laws.{lent_room}
use Rattle.report.specs.Lines.{head_text, loops_text}
use Rattle.report.proofs.Laws.{report_parts, three_length}
use Rattle.report.proofs.report_len.Goals as goal

pub returns : goal.returns
returns c =
    let a = c.args in
    let l = ap length (report_parts (lines_in a.lines.now) a.loops (lent_room _ _ c.requires) a.rows a.ticks) ∙ three_length (head_text a.rows a.loops) (loops_text (lines_in a.lines.now) a.loops) (key_line ticks_key a.ticks) in
    omega (arith, l, c.key_len.ensures.0, c.loops_len.ensures.0, c.head_len.ensures.0)
