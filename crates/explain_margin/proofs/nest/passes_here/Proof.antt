-- `explain_margin::nest::passes_here` meets its contract. Assumes nothing.
use borrow.Author.Rules.{rules}
use borrow.Author.Tests.{lt-ltb, le-ltb}
use Rattle.explain_margin.proofs.nest.passes_here.Statement.{statement}
use Rattle.explain_margin.proofs.nest.passes_here.Tie as tie

returns : tie.Need-returns-then-depth-lt9
returns c = rw (lt-ltb _ _ c.if-depth-lt9.true)

returns_2 : tie.Need-returns-else-depth-lt9
returns_2 c = rw (le-ltb _ _ c.if-depth-lt9.false)

pub passes_here_spec : {M : Type 1} → statement M
passes_here_spec = tie.close (tie.spec (λ c. search rules) (λ c. search rules) returns returns_2)
