-- The ranges over a loop.
use Rattle.rules.specs.Ranges.{Range, Env}
use Rattle.analysis_steps.specs.Sets.{set_of}
use Rattle.analysis_loops.specs.declared.Loop.{Loop}
use Rattle.analysis_ranges.specs.Env.{widened_env}

-- over a loop, with its tested variable's range
abbrev pub widened : Loop → Range → Env → Env
widened one mine ρ = widened_env (set_of one.set) mine one.tested ρ
