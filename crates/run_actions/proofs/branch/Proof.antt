-- `run_actions::branch` meets its contract. Assumes nothing.
use borrow.Author.Tests.{eq-eqb, ne_eqb}
use Rattle.run_actions.proofs.branch.Statement.{statement}
use Rattle.run_actions.proofs.branch.Tie as tie

returns : tie.Need-returns-then-byte-eq0
returns c = rw (eq-eqb _ _ c.if-byte-eq0.true)

returns_2 : tie.Need-returns-else-byte-eq0
returns_2 c = rw (ne_eqb _ _ c.if-byte-eq0.false)

pub branch_spec : {M : Type 1} → statement M
branch_spec = tie.close (tie.spec returns returns_2)
