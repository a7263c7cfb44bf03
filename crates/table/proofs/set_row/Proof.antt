use borrow.Author.Rules.{rules}
use Rattle.table.proofs.Numbers.{set_stands}
use Rattle.table.proofs.set_row.Statement.{statement}
use Rattle.table.proofs.set_row.Tie as tie

returns : tie.Need-returns
returns c = let s = c.operand_code-s.ensures in set_stands _ _ _ _ _ c.first.ensures s.small s.same

pub set_row_spec : {M : Type 1} → statement M
set_row_spec = tie.close (tie.spec (λ c κs. search rules) (λ c. search rules) (λ c κs. search rules) returns)
