-- `explain_margin::figures::put_line` meets its contract. Assumes nothing.
use borrow.Author.Rules.{rules}
use mathlib.Core.Path.{sym}
use lib.Seq.{set_out}
use Rattle.explain_margin.proofs.figures.put_line.Statement.{statement}
use Rattle.explain_margin.proofs.figures.put_line.Tie as tie

returns : tie.Need-returns-then-row-lt256
returns c = (rw c.exact_or_most.ensures, search rules)

returns_2 : tie.Need-returns-else-row-lt256
returns_2 c = (sym (set_out _ _ _ (search rules)), search rules)

pub put_line_spec : {M : Type 1} → statement M
put_line_spec = tie.close (tie.spec (λ c κs. search rules) (λ c. search rules) (λ c. search rules) returns returns_2)
