-- `calls::figures::tell_lines` meets its contract. Assumes nothing.
use mathlib.Core.Path.{◌∙◌, ap}
use native.Mathlib.Omega.{arith}
use borrow.Author.Rules.{rules}
use Rattle.rules.specs.Report.{line_of}
use Rattle.calls.specs.Figures.{line_numbers}
use Rattle.calls.proofs.Laws.{tells_none, tells_all, line_kept, tells_more}
use Rattle.calls.proofs.figures.tell_lines.Goals as goal

pub loop-k-init : goal.loop-k-init
loop-k-init c = tells_none c.requires.1

pub loop-k-preserved : goal.loop-k-preserved
loop-k-preserved c =
    let l = c.loop-k in
    let k = c.loop-k-test.true in
    let line = c.line_at.ensures ∙ line_kept (omega (arith, c.requires.0)) c.requires.1 l.invariant in
    tells_more _ (omega (arith, c.requires.0)) c.requires.1 (c.line_numbers.ensures ∙ ap (λ z. line_numbers (line_of z)) line) l.invariant

pub returns : goal.returns
returns c = tells_all (omega (arith, c.loop-k-test.false, c.loop-k.auto.k-end)) c.loop-k.invariant
