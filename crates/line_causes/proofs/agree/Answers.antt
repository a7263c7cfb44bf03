-- `line_causes::agree` meets its contract.
use native.Mathlib.Omega.{arith}
use native.Mathlib.Numerals.{add-one}
use mathlib.Core.Path.{sym, ap, ◌∙◌}
use Prim.Native.Nat.{◌+◌}
use Rattle.line_causes.proofs.Laws.{agree_on, agree_other, agree_done}
use Rattle.line_causes.proofs.agree.Goals as goal

pub returns-then-s-i : goal.returns-then-s-i
returns-then-s-i c = sym (c.loop-i.invariant ∙ ap (λ n. c.loop-i.i + n) (agree_other c.args.key.now c.args.s.now c.loop-i.i (omega arith) (omega arith) c.if-s-i.true) ∙ omega arith)

pub loop-i-preserved : goal.loop-i-preserved
loop-i-preserved c = rw add-one (c.loop-i.invariant ∙ ap (λ n. c.loop-i.i + n) (agree_on c.args.key.now c.args.s.now c.loop-i.i (omega arith) (omega arith) c.if-s-i.false) ∙ omega arith)

pub returns : goal.returns
returns c =
    sym (c.loop-i.invariant ∙ ap (λ n. c.loop-i.i + n) (agree_done c.args.key.now c.args.s.now c.loop-i.i (omega (arith, c.min-both.ensures))) ∙ omega arith)
