use Prim.Native.Nat.{◌+◌, ◌*◌}
use lib.ListN.{get_or}
use borrow.Author.Rules.{rules}
use Rattle.table.proofs.Numbers.{is_expression_lem}
use Rattle.table.proofs.limit_is_expression.Statement.{statement}
use Rattle.table.proofs.limit_is_expression.Tie as tie

returns : tie.Need-returns
returns c =
    let a = c.args in
    is_expression_lem (get_or a.rows.now (4 * a.i + 0) 0) (get_or a.rows.now (4 * a.i + 2) 0)

pub limit_is_expression_spec : {M : Type 1} → statement M
limit_is_expression_spec = tie.close (tie.spec (λ c. search rules) (λ c. search rules) (λ c. search rules) (λ c. search rules) returns)
