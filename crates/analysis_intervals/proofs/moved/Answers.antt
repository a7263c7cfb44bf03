-- The limits of an arithmetic row's constant.
use Rattle.ints.proofs.Parts.{ints}
use Rattle.rules.specs.declared.Change.{Change}
use Rattle.rules.specs.Values.{highest}
use Rattle.rules.specs.Scripts.{ChangeLimits}
use Rattle.rules.specs.Bounds.{FineChange}
use Rattle.analysis_intervals.proofs.moved.Goals as goal

limits : (d : Change) → FineChange d → ChangeLimits d
unfolding highest
limits (Change.Add c) h = omega ints
limits (Change.Sub c) h = omega ints
limits (Change.Mul c) h = (h.0, let l = h.1 in omega ints)
limits (Change.Div c) h = (h.0, let l = h.1 in omega ints)

pub changed-requires : goal.changed-requires
changed-requires c = limits c.args.change c.requires
