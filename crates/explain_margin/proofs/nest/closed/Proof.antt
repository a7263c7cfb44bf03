-- `explain_margin::nest::closed` meets its contract. Assumes nothing.
use borrow.Author.Rules.{rules}
use Rattle.explain_margin.proofs.nest.closed.Statement.{statement}
use Rattle.explain_margin.proofs.nest.closed.Tie as tie

returns : tie.Need-returns
returns c = rw c.out_of.ensures

pub closed_spec : {M : Type 1} → statement M
closed_spec = tie.close (tie.spec (λ c κs. search rules) returns)
