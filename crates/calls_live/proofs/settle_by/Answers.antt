-- `calls_live::settle_by` meets its contract. Assumes nothing.
use Rattle.calls_live.proofs.Playing.{settled_spent, settled_waits, settled_ended, settled_range}
use Rattle.calls_live.proofs.settle_by.Goals as goal

pub returns-in-Spent : goal.returns-in-Spent
returns-in-Spent c = rw c.in-Spent.is (settled_spent _ _ _)

pub returns-in-NoPick : goal.returns-in-NoPick
returns-in-NoPick c = rw c.in-NoPick.is (settled_waits _ _ _ _ c.min.ensures)

pub returns-in-Ended : goal.returns-in-Ended
returns-in-Ended c = rw c.in-Ended.is (settled_ended _ _ _)

pub returns-in-Range : goal.returns-in-Range
returns-in-Range c = rw c.in-Range.is (settled_range _ _ _)
