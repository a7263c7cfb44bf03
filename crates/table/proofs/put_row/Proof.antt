use mathlib.Core.Path.{sym, subst}
use borrow.Author.Rules.{rules}
use Rattle.table.specs.Packing.{Stands}
use Rattle.table.proofs.put_row.Statement.{statement}
use Rattle.table.proofs.put_row.Tie as tie

returns : tie.Need-returns
returns c =
    let p = c.put_numbers.ensures in
    record { row = subst (Stands _) (sym p.row) c.row_code.ensures; only = p.only }

pub put_row_spec : {M : Type 1} → statement M
put_row_spec = tie.close (tie.spec (λ c κs. search rules) (λ c κs. search rules) (λ c. search rules) returns)
