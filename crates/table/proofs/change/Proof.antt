-- `table::change` meets its contract.
use borrow.Author.Tests.{ne_eqb}
use Rattle.table.proofs.change.Statement.{statement}
use Rattle.table.proofs.change.Tie as tie

pub change_spec : {M : Type 1} → statement M
change_spec =
    tie.close
    (tie.spec
    (λ c. rw c.in-0.is)
    (λ c. rw c.in-1.is)
    (λ c. rw c.in-2.is)
    (λ c. let r = c.in_default.in_default-own.rest in rw (ne_eqb _ _ r.0.0.1, ne_eqb _ _ r.0.1, ne_eqb _ _ r.1)))
