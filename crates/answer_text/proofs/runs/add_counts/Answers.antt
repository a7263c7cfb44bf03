-- `runs::add_counts` meets its contract.
use native.Mathlib.Omega.{arith}
use borrow.Author.Rules.{rules}
use Rattle.answer_text.proofs.RunsLaws.{counting_none, counting_more, counting_all}
use Rattle.answer_text.proofs.runs.add_counts.Goals as goal

pub loop-i-init : goal.loop-i-init
loop-i-init c = counting_none _ _ _

pub loop-i-preserved : goal.loop-i-preserved
loop-i-preserved c = counting_more _ _ _ _ _ _ _ _ _ c.loop-i.invariant (search rules) c.add_count-end.ensures.0 c.add_count-end.ensures.1

pub returns : goal.returns
returns c = (counting_all _ _ _ _ _ _ _ c.loop-i.auto.i-end c.loop-i-test.false c.loop-i.invariant, omega (arith, c.loop-i.invariant.small, c.requires.0))
