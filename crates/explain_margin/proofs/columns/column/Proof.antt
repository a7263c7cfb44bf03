-- `explain_margin::columns::column` meets its contract. Assumes nothing.
use native.Mathlib.Omega.{arith}
use borrow.Author.Rules.{rules}
use Rattle.rules.proofs.LongestReport.{decimal_short}
use Rattle.explain_margin.proofs.columns.column.Statement.{statement}
use Rattle.explain_margin.proofs.columns.column.Tie as tie

put-number-requires : tie.Need-put_number-n-requires
put-number-requires c κs = decimal_short c.args.greatest

returns : tie.Need-returns-then-n-lt-HEADING
returns c = record { width = omega (arith, c.put_number-n.ensures.count); narrow = omega arith }

returns_2 : tie.Need-returns-else-n-lt-HEADING
returns_2 c =
    let n = c.put_number-n.ensures.count in
    record { width = omega (arith, n); narrow = omega (arith, n, decimal_short c.args.greatest) }

pub column_spec : {M : Type 1} → statement M
column_spec = tie.close (tie.spec (λ c. search rules) put-number-requires returns returns_2)
