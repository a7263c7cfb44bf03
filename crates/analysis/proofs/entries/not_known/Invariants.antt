use Prim.Native.Nat.{◌≤◌, ◌<◌}
use mathlib.Core.Path.{◌≡◌}
use Rattle.analysis_intervals.specs.Env.{env_of}
use Rattle.analysis.specs.Known.{bit_of, not_known}
use Rattle.analysis.proofs.entries.not_known.Given as goal

abbrev pub invariant-loop-v : goal.invariant-loop-v
invariant-loop-v l = (l.v ≤ 16) × (l.bit ≡ bit_of l.v) × (l.sum ≡ not_known l.v (env_of l.r)) × (l.sum < l.bit)
