-- `calls::prices::ask_prices` meets its contract.
use mathlib.Core.Path.{sym, ◌∙◌}
use native.Mathlib.Omega.{arith}
use Rattle.calls.proofs.Asking.{from_start, from_next, from_wrong, from_extra, from_end}
use Rattle.calls.proofs.prices.ask_prices.Goals as goal

pub loop-i-init : goal.loop-i-init
loop-i-init c = from_start _

pub loop-i-preserved : goal.loop-i-preserved
loop-i-preserved c = c.loop-i.invariant ∙ from_next _ _ c.loop-i-test.true c.fine_at.ensures c.if-not-fine_at.false-raw

pub returns-then-not-fine_at : goal.returns-then-not-fine_at
returns-then-not-fine_at c = c.wrong_at.ensures ∙ sym (c.loop-i.invariant ∙ from_wrong _ _ c.loop-i-test.true c.fine_at.ensures c.if-not-fine_at.true-raw)

pub returns-then-prices-gt4 : goal.returns-then-prices-gt4
returns-then-prices-gt4 c = c.wrong_at-then-prices-gt4.ensures ∙ sym (c.loop-i.invariant ∙ from_extra _ _ (omega (arith, c.loop-i-test.false, c.loop-i.auto.i-end)) c.if-prices-gt4.true)

pub returns : goal.returns
returns c = sym (c.loop-i.invariant ∙ from_end _ _ (omega (arith, c.loop-i-test.false, c.loop-i.auto.i-end)) c.if-prices-gt4.false)
