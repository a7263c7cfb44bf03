-- `calls::prices::fine_at` meets its contract.
use lib.ListN.{drop_of_length-le}
use lib.Seq.{drop-cons}
use borrow.Author.Rules.{rules}
use Rattle.calls.proofs.prices.fine_at.Statement.{statement}
use Rattle.calls.proofs.prices.fine_at.Tie as tie

returns : tie.Need-returns-then-i-prices
returns c = rw (drop-cons c.args.prices.now c.args.i 0 c.if-i-prices.true) c.fine.ensures

returns_2 : tie.Need-returns
returns_2 c = rw (drop_of_length-le c.args.prices.now c.if-i-prices.false)

pub fine_at_spec : {M : Type 1} → statement M
fine_at_spec = tie.close (tie.spec (λ c. search rules) (λ c. search rules) (λ c κs. search rules) returns returns_2)
