-- `run_actions::begin` meets its contract. Assumes nothing.
use borrow.Author.Rules.{rules}
use Rattle.run_actions.proofs.Laws.{begins}
use Rattle.run_actions.proofs.begin.Statement.{statement}
use Rattle.run_actions.proofs.begin.Tie as tie

returns : tie.Need-returns
returns c = let s = c in rw c.max.ensures (begins s.args.counts.now s.args.k s.requires)

pub begin_spec : {M : Type 1} → statement M
begin_spec =
    tie.close
    (tie.spec
    (λ c. search rules) (λ c. search rules) (λ c. search rules) (λ c. search rules)
    (λ c. search rules) (λ c. search rules) (λ c. search rules) (λ c. search rules)
    (λ c. search rules) (λ c. search rules) (λ c κs. search rules) (λ c. search rules)
    (λ c. search rules)
    returns)
