use Rattle.std.proofs.Common.{◌∙◌}
use borrow.Author.Tests.{le-leb}
use lib.ListN.{drop_of_length-le}
use lib.Seq.{drop-cons}
use Rattle.expressions.specs.Leaves.{at_mark}
use Rattle.expressions.proofs.leaves.at_mark.Goals as goal

pub returns-then-at-s : goal.returns-then-at-s
unfolding at_mark
returns-then-at-s c = le-leb _ _ c.if-at-s.true ∙ rw (drop_of_length-le c.args.s.now c.if-at-s.true)

pub returns-else-at-s : goal.returns-else-at-s
unfolding at_mark
returns-else-at-s c = c.is_mark.ensures ∙ rw (drop-cons c.args.s.now c.args.at 0 c.if-at-s.false)
