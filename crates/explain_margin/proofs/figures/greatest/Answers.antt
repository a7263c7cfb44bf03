-- `figures::greatest` meets its contract.
use native.Mathlib.Omega.{arith}
use mathlib.Core.Path.{sym, ◌∙◌}
use Rattle.explain_margin.proofs.Laws.{most_more, most_none}
use Rattle.explain_margin.proofs.figures.greatest.Goals as goal

pub loop-i-preserved : goal.loop-i-preserved
loop-i-preserved c =
    let l = c.loop-i in
    rw c.max-most.ensures (most_more c.args.column c.args.figures.now l.i l.most (omega arith) ∙ l.invariant)

pub returns : goal.returns
returns c =
    let l = c.loop-i in
    sym (most_none c.args.column c.args.figures.now l.i l.most (omega arith)) ∙ l.invariant
