use mir.Facts.{to_z-of_z}
use mir.Syntax.{w32}
use mir.Val.{SFits}
use borrow.Author.Rules.{sfits_of}
use Rattle.rules.specs.File.{asks_order}
use Rattle.reading.proofs.words.asks_order.Goals as goal

pub returns-then-number_of : goal.returns-then-number_of
unfolding asks_order
returns-then-number_of c =
    let r : SFits w32 c.number_of.result = sfits_of c.number_of.type_inv in
    let s : SFits w32 c.number_of-2.result = sfits_of c.number_of-2.type_inv in
    rw (← c.number_of.ensures, ← c.number_of-2.ensures, simp (to_z-of_z r, to_z-of_z s) at c.if-number_of.true)

pub returns : goal.returns
unfolding asks_order
returns c =
    let r : SFits w32 c.number_of.result = sfits_of c.number_of.type_inv in
    let s : SFits w32 c.number_of-2.result = sfits_of c.number_of-2.type_inv in
    rw (← c.number_of.ensures, ← c.number_of-2.ensures, simp (to_z-of_z r, to_z-of_z s) at c.if-number_of.false)
