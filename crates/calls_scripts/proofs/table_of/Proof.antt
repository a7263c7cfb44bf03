-- `calls_scripts::table_of` meets its contract. Assumes nothing.
use mathlib.Core.Path.{sym}
use native.Mathlib.Omega.{arith}
use Rattle.calls_scripts.proofs.Tables.{tables_before, table_size}
use borrow.Author.Rules.{rules}
use Rattle.calls_scripts.proofs.table_of.Statement.{statement}
use Rattle.calls_scripts.proofs.table_of.Tie as tie

returns : tie.Need-returns
returns c = let k = c.args.k in record { from = sym (tables_before k (omega (arith, c.requires))); to = omega (arith, table_size k c.requires) }

pub table_of_spec : {M : Type 1} → statement M
table_of_spec = tie.close (tie.spec (λ c. search rules) (λ c. search rules) returns)
