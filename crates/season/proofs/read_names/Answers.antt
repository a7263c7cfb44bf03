-- What was read is kept; before the first block there is no byte.
use Rattle.std.proofs.Common.{[]}
use Rattle.season.proofs.read_names.Goals as goal

pub loop-init : goal.loop-init
loop-init g c = ([], c.start.ensures)

pub loop-preserved : goal.loop-preserved
loop-preserved g c = c.read_block-list.ensures c.loop.invariant
