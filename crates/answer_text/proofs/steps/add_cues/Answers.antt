-- `steps::add_cues` meets its contract.
use native.Mathlib.Omega.{arith}
use mathlib.Core.Path.{refl}
use Rattle.answer_text.proofs.RunsLaws.{listing_none, listing_more, listing_all}
use Rattle.answer_text.proofs.steps.add_cues.Goals as goal

pub loop-i-init : goal.loop-i-init
loop-i-init c = listing_none _ _ _ _ _

pub loop-i-preserved : goal.loop-i-preserved
loop-i-preserved c = listing_more _ _ _ _ _ _ _ _ _ _ 0 _ c.loop-i.invariant c.loop-i-test.true refl c.add_cue-end.ensures.0 c.add_cue-end.ensures.1

pub returns : goal.returns
returns c = (listing_all _ _ _ _ _ _ _ _ c.loop-i.invariant c.loop-i-test.false, omega (arith, c.loop-i.invariant.small, c.loop-i.invariant.within, c.requires.0))
