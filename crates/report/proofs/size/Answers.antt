use Rattle.report.proofs.Laws.{abs_size}
use Rattle.report.proofs.size.Goals as goal

pub returns : goal.returns
returns c = abs_size c.ranges.z c.unsigned_abs.ensures.value
