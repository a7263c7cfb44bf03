use borrow.Author.Rules.{rules}
use Rattle.table.proofs.operand_at.Statement.{statement}
use Rattle.table.proofs.operand_at.Tie as tie

returns : tie.Need-returns
returns c = rw (c.operand.ensures, c.start_at.ensures, c.op_at.ensures)

pub operand_at_spec : {M : Type 1} → statement M
operand_at_spec = tie.close (tie.spec (λ c κs. search rules) (λ c κs. search rules) (λ c κs. search rules) returns)
