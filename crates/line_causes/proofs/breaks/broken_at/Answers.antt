-- `breaks::broken_at` meets its contract.
use native.Mathlib.Omega.{arith}
use native.Mathlib.Numerals.{add-one}
use mathlib.Core.Path.{sym, ap, ◌∙◌}
use Prim.Native.Nat.{◌+◌}
use Rattle.line_causes.proofs.Laws.{broken_stop, broken_on, broken_end}
use Rattle.line_causes.proofs.breaks.broken_at.Goals as goal

pub returns-in_default-clause-value : goal.returns-in_default-clause-value
returns-in_default-clause-value c =
    sym (c.loop-at.invariant.1 ∙ ap (λ n. c.loop-at.at + n) (broken_stop _ _ _ _ c.loop-at-test.true c.in_default.ensures.value) ∙ omega arith)

pub loop-at-preserved : goal.loop-at-preserved
loop-at-preserved c = (
  c.in-Some.ensures.open,
  rw add-one (c.loop-at.invariant.1 ∙ ap (λ n. c.loop-at.at + n) (broken_on _ _ _ _ c.loop-at-test.true _ c.in-Some.ensures.value) ∙ omega arith),
)

pub returns-clause-value : goal.returns-clause-value
returns-clause-value c =
    sym (c.loop-at.invariant.1 ∙ ap (λ n. c.loop-at.at + n) (broken_end _ _ _ _ c.loop-at-test.false) ∙ omega arith)
