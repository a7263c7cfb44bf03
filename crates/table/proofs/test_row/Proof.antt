use borrow.Author.Rules.{rules}
use Rattle.table.proofs.Numbers.{test_row}
use Rattle.table.proofs.test_row.Statement.{statement}
use Rattle.table.proofs.test_row.Tie as tie

returns : tie.Need-returns
returns c = test_row _ _ _ _ _ _ _ _ c.first.ensures c.comparison_code.ensures c.operand_code-n.ensures.same

pub test_row_spec : {M : Type 1} → statement M
test_row_spec = tie.close (tie.spec (λ c κs. search rules) (λ c κs. search rules) (λ c κs. search rules) returns)
