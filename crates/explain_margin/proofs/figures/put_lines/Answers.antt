-- `figures::put_lines` meets its contract.
use native.Mathlib.Omega.{arith}
use mathlib.Core.Path.{sym, ap, ◌∙◌}
use mathlib.Core.List.{[]}
use lib.ListN.{length-map}
use Rattle.analysis_lines.specs.Coded.{line_in, lines_in}
use Rattle.explain_margin.specs.Figures.{put_lines}
use Rattle.explain_margin.proofs.Laws.{put_more, put_none}
use Rattle.explain_margin.proofs.figures.put_lines.Goals as goal

pub loop-k-preserved : goal.loop-k-preserved
loop-k-preserved c =
    let l = c.loop-k in
    let p = c.put_line.ensures in (
      p.1,
      ap (put_lines _) p.0 ∙ put_more (lines_in c.args.lines.now) c.args.loops l.k l.figures c.line_at.result (line_in []) (omega arith) (omega (arith, length-map c.args.lines.now line_in, c.requires.1)) c.line_at.ensures ∙ l.invariant.1,
    )

pub returns : goal.returns
returns c =
    let l = c.loop-k in
    (sym (put_none (lines_in c.args.lines.now) c.args.loops l.k l.figures (omega arith)) ∙ l.invariant.1, l.invariant.0)
