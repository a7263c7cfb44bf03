use Rattle.season.specs.Listed.{Listed}
use Rattle.season.proofs.read_names.Given as goal

abbrev pub invariant-loop : goal.invariant-loop
invariant-loop g l = Listed l.list.line l.names l.lengths
