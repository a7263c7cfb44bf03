-- `picks::put_drawn` meets its contract.
use native.Mathlib.Omega.{arith}
use mathlib.Core.Path.{refl}
use Rattle.program_words.proofs.Drawn.{drawing_none, drawing_more, drawing_all}
use Rattle.program_words.proofs.picks.put_drawn.Goals as goal

pub loop-pick-init : goal.loop-pick-init
loop-pick-init c = drawing_none _ _ _ refl (omega arith)

pub next_drawn-x-requires : goal.next_drawn-x-requires
next_drawn-x-requires c = c.loop-pick.invariant.small

pub loop-pick-preserved : goal.loop-pick-preserved
loop-pick-preserved c = drawing_more _ _ _ _ _ _ c.loop-pick.invariant c.loop-pick-test.true c.next_drawn-x.ensures.0 c.next_drawn-x.ensures.1

pub returns : goal.returns
returns c = drawing_all _ _ _ _ _ c.loop-pick.invariant c.loop-pick-test.false
