use Rattle.std.proofs.Common.{◌≡◌, take}
use Rattle.rules.specs.Scripts.{pair_ranges}
use Rattle.rules.specs.Calls.{store_verdict}
use Rattle.calls.proofs.Stores.{from}
use Rattle.calls.proofs.ask_store.Given as goal

-- the numbers before this one are inside their ranges
abbrev pub invariant-loop-i : goal.invariant-loop-i
invariant-loop-i l = store_verdict 0 (take l.vars (pair_ranges l.ranges)) l.store ≡ from l.ranges l.vars l.store l.i
