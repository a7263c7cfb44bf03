-- `loader::ask_lent` meets its contract. Assumes nothing.
use borrow.Author.Rules.{rules}
use borrow.Author.Tests.{le-leb, lt-leb}
use Rattle.rules.specs.Calls.{scratch_size}
use Rattle.loader.proofs.ask_lent.Statement.{statement}
use Rattle.loader.proofs.ask_lent.Tie as tie

returns : tie.Need-returns-then-scratch-lt-SCRATCH
returns c = rw (lt-leb scratch_size c.args.scratch c.if-scratch-lt-SCRATCH.true)

returns_2 : tie.Need-returns
returns_2 c = rw (le-leb scratch_size c.args.scratch c.if-scratch-lt-SCRATCH.false) c.ask_prices.ensures

pub ask_lent_spec : {M : Type 1} → statement M
ask_lent_spec = tie.close (tie.spec returns (λ c κs. search rules) returns_2)
