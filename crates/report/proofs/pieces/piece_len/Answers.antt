use Rattle.rules.specs.Report.{decimal}
use Rattle.report.proofs.pieces.piece_len.Goals as goal

pub returns-in-Number : goal.returns-in-Number
unfolding decimal
returns-in-Number c = rw c.in-Number.is c.digits_len.ensures
