use borrow.Author.Rules.{rules}
use Rattle.table.proofs.Numbers.{for_stands}
use Rattle.table.proofs.for_row.Statement.{statement}
use Rattle.table.proofs.for_row.Tie as tie

returns : tie.Need-returns
returns c =
    let s = c.operand_code-s.ensures in
    let n = c.operand_code-n.ensures in
    let m = c.change_code-m.ensures in
    for_stands _ _ _ _ _ _ _ _ _ _ _ _ _ c.first.ensures s.small s.same c.comparison_code.ensures n.same m.same

pub for_row_spec : {M : Type 1} → statement M
for_row_spec =
    tie.close
    (tie.spec
    (λ c κs. search rules) (λ c κs. search rules) (λ c κs. search rules)
    (λ c. search rules)
    (λ c κs. search rules) (λ c κs. search rules)
    returns)
