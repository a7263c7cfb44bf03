-- `explain_margin::place::between` meets its contract. Assumes nothing.
use borrow.Author.Tests.{le-leb, lt-leb}
use Rattle.explain_margin.proofs.place.between.Statement.{statement}
use Rattle.explain_margin.proofs.place.between.Tie as tie

returns : tie.Need-returns-then-lo-q
returns c = rw (le-leb c.args.lo c.args.q c.if-lo-q.true)

returns_2 : tie.Need-returns-else-lo-q
returns_2 c = rw (lt-leb c.args.lo c.args.q c.if-lo-q.false)

pub between_spec : {M : Type 1} → statement M
between_spec = tie.close (tie.spec returns returns_2)
