use Rattle.std.proofs.Common.{◌≡◌, ◌-◌, drop}
use Rattle.rules.specs.Calls.{prices_verdict}
use Rattle.calls.proofs.prices.ask_prices.Given as goal

-- the prices before this one are fine
abbrev pub invariant-loop-i : goal.invariant-loop-i
invariant-loop-i l = prices_verdict 4 0 l.prices ≡ prices_verdict (4 - l.i) l.i (drop l.i l.prices)
