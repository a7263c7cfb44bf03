-- `season_sheet::sheet::put_numbers` meets its contract.
use native.Mathlib.Omega.{arith}
use Rattle.season_sheet.proofs.Texts.{numbering_none, numbering_more, numbering_all}
use Rattle.season_sheet.proofs.sheet.put_numbers.Goals as goal

pub loop-q-init : goal.loop-q-init
loop-q-init c = numbering_none _ _

pub loop-q-preserved : goal.loop-q-preserved
loop-q-preserved c = numbering_more _ _ _ _ _ _ _ c.loop-q.invariant c.loop-q-test.true c.requires c.put_met-at.ensures

pub returns : goal.returns
returns c = (numbering_all _ _ _ _ _ c.loop-q.invariant c.loop-q-test.false, omega (arith, c.loop-q.invariant.small, c.loop-q.invariant.within))

pub overflow_add-at : goal.overflow_add-at
overflow_add-at c = omega (arith, c.loop-q.invariant.small, c.requires, c.put_met-at.ensures.count, (numbering_more _ _ _ _ _ _ _ c.loop-q.invariant c.loop-q-test.true c.requires c.put_met-at.ensures).small)
