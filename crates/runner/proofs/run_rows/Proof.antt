-- `runner::run_rows` meets its contract. Assumes nothing.
use borrow.Author.Rules.{rules}
use Rattle.runner.proofs.Start.{ready, answers}
use Rattle.runner.proofs.run_rows.Statement.{statement}
use Rattle.runner.proofs.run_rows.Tie as tie

resume-requires : tie.Need-resume-end-requires
resume-requires c κs = let p = c.requires in ready _ _ _ _ _ _ p.0 _ p.1

returns : tie.Need-returns
returns c =
    let p = c.requires in
    let e = c.resume-end in
    rw c.ran_of.ensures (answers _ _ _ _ _ _ p.0 _ p.1 e.result _ _ (search rules) e.ensures)

pub run_rows_spec : {M : Type 1} → statement M
run_rows_spec = tie.close (tie.spec resume-requires (λ c κs. search rules) (λ c. search rules) returns)
