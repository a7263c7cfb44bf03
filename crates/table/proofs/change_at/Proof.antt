use borrow.Author.Rules.{rules}
use Rattle.table.proofs.change_at.Statement.{statement}
use Rattle.table.proofs.change_at.Tie as tie

returns : tie.Need-returns
returns c = rw (c.change.ensures, c.number_at.ensures, c.change_kind_at.ensures)

pub change_at_spec : {M : Type 1} → statement M
change_at_spec = tie.close (tie.spec (λ c κs. search rules) (λ c κs. search rules) (λ c κs. search rules) returns)
