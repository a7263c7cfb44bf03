-- `runner::answer` meets its contract. Assumes nothing.
use borrow.Author.Rules.{rules}
use Rattle.runner.proofs.ran_of.Statement.{statement}
use Rattle.runner.proofs.ran_of.Tie as tie

returns : tie.Need-returns-in-Going
returns c = rw c.in-Going.is

returns_2 : tie.Need-returns-in-Over
returns_2 c = rw c.in-Over.is

pub ran_of_spec : {M : Type 1} → statement M
ran_of_spec = tie.close (tie.spec (λ c. search rules) (λ c. search rules) (λ c. search rules) (λ c. search rules) returns returns_2)
