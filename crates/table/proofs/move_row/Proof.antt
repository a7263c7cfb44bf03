use borrow.Author.Rules.{rules}
use Rattle.table.proofs.Numbers.{move_stands}
use Rattle.table.proofs.move_row.Statement.{statement}
use Rattle.table.proofs.move_row.Tie as tie

returns : tie.Need-returns
returns c = let m = c.change_code-m.ensures in move_stands _ _ _ _ _ c.first.ensures m.small m.same

pub move_row_spec : {M : Type 1} → statement M
move_row_spec = tie.close (tie.spec (λ c κs. search rules) (λ c. search rules) (λ c κs. search rules) returns)
