-- The arguments so far are kept; before the first there is no byte.
use Rattle.std.proofs.Common.{[]}
use Rattle.season.proofs.argument_names.Goals as goal

pub loop-i-init : goal.loop-i-init
loop-i-init g c = ([], c.start-line.ensures)

pub loop-i-preserved : goal.loop-i-preserved
loop-i-preserved g c = c.keep_argument-line.ensures c.loop-i.invariant

pub returns : goal.returns
returns g c = c.loop-i.invariant
