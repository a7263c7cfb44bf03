use mathlib.Core.Path.{◌≡◌}
use Prim.Native.Nat.{suc, ◌+◌, ◌-◌, ◌<◌}
use Rattle.rules.specs.Turns.{powers}
use Rattle.analysis_turns.proofs.figures.powers.Given as goal

abbrev pub invariant-loop-at : goal.invariant-loop-at
invariant-loop-at l = (powers (suc l.e) l.t l.e l.f ≡ l.k + powers (suc l.e - l.k) l.at l.e l.f) × (l.k < l.at)

abbrev pub decreases-loop-at : goal.decreases-loop-at
decreases-loop-at l = suc l.e - l.k
