use lib.ListN.{get_or}
use lib.IntN.{pos}
use mir.Syntax.{w32}
use mir.Val.{SFits}
use mir.Facts.{to_z-of_z}
use borrow.Author.Rules.{rules}
use Rattle.reading.proofs.text.word.Goals as goal

pub returns : goal.returns
returns c = let f : SFits w32 (get_or c.args.line.values c.args.k (pos 0)) = search rules in
    rw (to_z-of_z f) at c.said.ensures
