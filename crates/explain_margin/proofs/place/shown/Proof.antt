-- `explain_margin::place::shown` meets its contract. Assumes nothing.
use borrow.Author.Tests.{le-leb, lt-leb}
use Rattle.explain_margin.proofs.place.shown.Statement.{statement}
use Rattle.explain_margin.proofs.place.shown.Tie as tie

returns : tie.Need-returns-then-b-lt32
returns c = rw (lt-leb 32 _ c.if-b-lt32.true)

returns_2 : tie.Need-returns-then-b-gt126
returns_2 c = rw (le-leb 32 _ c.if-b-lt32.false, lt-leb _ 126 c.if-b-gt126.true)

returns_3 : tie.Need-returns
returns_3 c = rw (le-leb 32 _ c.if-b-lt32.false, le-leb _ 126 c.if-b-gt126.false)

pub shown_spec : {M : Type 1} → statement M
shown_spec = tie.close (tie.spec returns returns_2 returns_3)
