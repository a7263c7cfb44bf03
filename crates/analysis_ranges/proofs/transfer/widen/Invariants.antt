use Prim.Native.Nat.{◌≤◌}
use mathlib.Core.Path.{◌≡◌}
use Rattle.analysis_steps.specs.Sets.{set_of}
use Rattle.analysis_intervals.specs.Env.{env_of, range_of}
use Rattle.analysis_ranges.specs.Env.{env_up_to, widened_env}
use Rattle.analysis_ranges.proofs.transfer.widen.Given as goal

abbrev pub invariant-loop-v : goal.invariant-loop-v
invariant-loop-v l = (l.v ≤ 16) × (env_of l.r ≡ env_up_to l.v (widened_env (set_of l.set) (range_of l.mine) l.tested (env_of l.initial.r)) (env_of l.initial.r))
