-- `runs::add_values` meets its contract.
use native.Mathlib.Omega.{arith}
use borrow.Author.Rules.{rules}
use mathlib.Core.Path.{refl}
use lib.IntN.{pos}
use lib.ListN.{get_or}
use mir.Syntax.{w32}
use mir.Val.{SFits}
use mir.Facts.{to_z-of_z}
use Rattle.answer_text.proofs.RunsLaws.{listing_none, listing_more, listing_all}
use Rattle.answer_text.proofs.runs.add_values.Goals as goal

pub loop-i-init : goal.loop-i-init
loop-i-init c = listing_none _ _ _ _ _

pub loop-i-preserved : goal.loop-i-preserved
loop-i-preserved c =
    let g : SFits w32 (get_or c.args.store.now c.loop-i.i (pos 0)) = search rules in
    listing_more _ _ _ _ _ _ _ _ _ _ (pos 0) _ c.loop-i.invariant c.loop-i-test.true refl (simp (to_z-of_z g) at c.add_value-end.ensures.0) c.add_value-end.ensures.1

pub returns : goal.returns
returns c = (listing_all _ _ _ _ _ _ _ _ c.loop-i.invariant c.loop-i-test.false, omega (arith, c.loop-i.invariant.small, c.loop-i.invariant.within, c.requires.0))
