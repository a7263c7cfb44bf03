-- `calls_live::settle` meets its contract. Assumes nothing.
use Rattle.calls_live.proofs.Playing.{settled_full, settled_going, settled_so}
use Rattle.calls_live.proofs.settle.Goals as goal

pub returns-then-stop : goal.returns-then-stop
returns-then-stop c = rw c.if-stop.true (settled_full _ _ _ _ c.min.ensures)

pub returns-in-Over : goal.returns-in-Over
returns-in-Over c = settled_so c.if-stop.false c.in-Over.is c.settle_by.ensures

pub returns-in-Going : goal.returns-in-Going
returns-in-Going c = settled_so c.if-stop.false c.in-Going.is (settled_going _ _)
