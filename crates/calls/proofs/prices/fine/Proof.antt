-- `calls::prices::fine` meets its contract.
use borrow.Author.Tests.{le-leb, lt-leb}
use Rattle.calls.proofs.prices.fine.Statement.{statement}
use Rattle.calls.proofs.prices.fine.Tie as tie

returns : tie.Need-returns-then-price-ge1
returns c = rw (le-leb 1 c.args.price c.if-price-ge1.true)

returns_2 : tie.Need-returns-else-price-ge1
returns_2 c = rw (lt-leb 1 c.args.price c.if-price-ge1.false)

pub fine_spec : {M : Type 1} → statement M
fine_spec = tie.close (tie.spec returns returns_2)
