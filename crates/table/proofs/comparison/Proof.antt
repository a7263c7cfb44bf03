-- `table::comparison` meets its contract.
use borrow.Author.Tests.{ne_eqb}
use Rattle.table.proofs.comparison.Statement.{statement}
use Rattle.table.proofs.comparison.Tie as tie

returns-6 : tie.Need-returns-in_default
returns-6 c = let r = c.in_default.in_default-own.rest in rw (ne_eqb _ _ r.0.0.0.0.1, ne_eqb _ _ r.0.0.0.1, ne_eqb _ _ r.0.0.1, ne_eqb _ _ r.0.1, ne_eqb _ _ r.1)

pub comparison_spec : {M : Type 1} → statement M
comparison_spec =
    tie.close
    (tie.spec
    (λ c. rw c.in-1.is)
    (λ c. rw c.in-3.is)
    (λ c. rw c.in-4.is)
    (λ c. rw c.in-6.is)
    (λ c. rw c.in-2.is)
    returns-6)
