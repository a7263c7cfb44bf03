use borrow.Author.Rules.{rules}
use Rattle.table.proofs.limit_at.Statement.{statement}
use Rattle.table.proofs.limit_at.Tie as tie

returns : tie.Need-returns
returns c = rw (c.operand.ensures, c.limit_value_at.ensures, c.limit_kind_at.ensures)

pub limit_at_spec : {M : Type 1} → statement M
limit_at_spec = tie.close (tie.spec (λ c κs. search rules) (λ c κs. search rules) (λ c κs. search rules) returns)
