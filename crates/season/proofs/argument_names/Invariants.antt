use Rattle.std.proofs.Common.{◌-◌}
use Rattle.season.specs.Listed.{Listed}
use Rattle.season.proofs.argument_names.Given as goal

abbrev pub invariant-loop-i : goal.invariant-loop-i
invariant-loop-i g l = Listed l.line l.names l.lengths
