use native.Mathlib.Omega.{arith}
use Rattle.rules.specs.Report.{key_line, report_key, rows_key, loops_key}
use Rattle.report.specs.Lines.{head_text}
use Rattle.report.proofs.Laws.{three_length}
use Rattle.report.proofs.head_len.Goals as goal

pub returns : goal.returns
unfolding head_text
returns c =
    let a = c.args in
    let l = three_length (key_line report_key 1) (key_line rows_key a.rows) (key_line loops_key a.loops) in
    (omega (arith, l, c.key_len-3.ensures.0, c.key_len-2.ensures.0, c.key_len.ensures.0), omega arith)
