-- `explain_margin::nest::opened` meets its contract. Assumes nothing.
use borrow.Author.Rules.{rules}
use borrow.Author.Tests.{lt-ltb, le-ltb}
use Rattle.explain_margin.proofs.nest.opened.Statement.{statement}
use Rattle.explain_margin.proofs.nest.opened.Tie as tie

returns : tie.Need-returns-then-depth-ge8
returns c = rw (le-ltb _ _ c.if-depth-ge8.true)

returns_2 : tie.Need-returns
returns_2 c = rw (lt-ltb _ _ c.if-depth-ge8.false)

pub opened_spec : {M : Type 1} → statement M
opened_spec = tie.close (tie.spec returns (λ c. search rules) (λ c. search rules) (λ c. search rules) (λ c. search rules) returns_2)
