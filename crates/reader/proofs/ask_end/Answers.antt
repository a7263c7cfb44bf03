use Rattle.std.proofs.Common.{refl}
use borrow.Author.Tests.{eq-eqb, ne_eqb}
use Rattle.rules.specs.Questions.{asked}
use Rattle.reader.specs.Read.{end_verdict}
use Rattle.reader.proofs.ask_end.Goals as goal

pub returns-then-more : goal.returns-then-more
unfolding end_verdict asked
returns-then-more c = rw c.if-more.true refl

pub returns-then-depth-ne0 : goal.returns-then-depth-ne0
unfolding end_verdict asked
returns-then-depth-ne0 c = rw (c.if-more.false, ne_eqb _ _ c.if-depth-ne0.true) refl

pub returns : goal.returns
unfolding end_verdict asked
returns c = rw (c.if-more.false, eq-eqb _ _ c.if-depth-ne0.false) refl
