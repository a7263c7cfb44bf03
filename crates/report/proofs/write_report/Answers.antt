use native.Mathlib.Omega.{arith}
use Rattle.report.proofs.Laws.{refused_text, accepted_text}
use Rattle.report.proofs.write_report.Goals as goal

pub returns-then-buffer-len : goal.returns-then-buffer-len
returns-then-buffer-len c = refused_text _ _ _ c.report_len-len.ensures (omega arith)

pub returns : goal.returns
returns c = accepted_text _ _ _ _ (omega (arith, c.report_len-len.ensures, c.if-buffer-len.false)) c.put_lines.ensures
