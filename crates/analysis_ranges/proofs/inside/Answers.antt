-- `analysis_ranges::inside` meets its contract.
use mathlib.Core.Path.{ap, ◌∙◌}
use Rattle.analysis_intervals.specs.Env.{env_of}
use Rattle.analysis_ranges.specs.Loops.{widened}
use Rattle.analysis_ranges.proofs.inside.Goals as goal

pub returns : goal.returns
returns c = c.widen.ensures ∙ ap (λ mine. widened c.args.one mine (env_of c.args.r.now)) c.inner.ensures
