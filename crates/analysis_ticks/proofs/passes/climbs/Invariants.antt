use mathlib.Core.Path.{◌≡◌}
use Prim.Native.Nat.{ℕ, ◌+◌, ◌*◌, ◌-◌, ◌≤◌}
use lib.IntN.{ℤ, pos, ◌+ℤ◌, ◌*ℤ◌}
use Rattle.rules.specs.Turns.{climb}
use Rattle.rules.specs.Passes.{sum}
use Rattle.analysis_ticks.proofs.passes.climbs.Given as goal

abbrev pub term : ℤ → ℤ → ℤ → ℤ → ℕ → ℕ
term start limit step by i = climb (record { start = start; limit = limit +ℤ by *ℤ pos i; step = step })

abbrev pub invariant-loop-i : goal.invariant-loop-i
invariant-loop-i l = (l.all + sum (term l.start l.limit l.step l.by) l.i (l.count - l.i) ≡ sum (term l.start l.limit l.step l.by) 0 l.count) × (l.all ≤ l.i * 3_100_000_000_000_000)
