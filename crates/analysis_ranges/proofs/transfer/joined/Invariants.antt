use Prim.Native.Nat.{◌≤◌}
use mathlib.Core.Path.{◌≡◌}
use Rattle.rules.specs.Ranges.{join}
use Rattle.analysis_intervals.specs.Env.{env_of}
use Rattle.analysis_ranges.specs.Env.{env_up_to}
use Rattle.analysis_ranges.proofs.transfer.joined.Given as goal

abbrev pub invariant-loop-v : goal.invariant-loop-v
invariant-loop-v l = (l.v ≤ 16) × (env_of l.r ≡ env_up_to l.v (join (env_of l.a) (env_of l.b)) (env_of l.a))
