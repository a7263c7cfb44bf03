-- The first block over the limit.
use Rattle.analysis_ticks.proofs.Caps.{over_kept, over_none, over_first}
use Rattle.analysis_ticks.proofs.first_over.Goals as goal

pub returns-in-Some : goal.returns-in-Some
returns-in-Some c = rw c.in-Some.is (record { value = λ F h. over_kept _ _ F h _ })

pub returns-then-ticks-le-LIMIT : goal.returns-then-ticks-le-LIMIT
returns-then-ticks-le-LIMIT c = rw c.in-None.is (record { value = λ F h. over_none _ _ F h c.if-ticks-le-LIMIT.true })

pub returns-else-ticks-le-LIMIT : goal.returns-else-ticks-le-LIMIT
returns-else-ticks-le-LIMIT c = rw c.in-None.is (record { value = λ F h. over_first _ _ F h c.if-ticks-le-LIMIT.false })
