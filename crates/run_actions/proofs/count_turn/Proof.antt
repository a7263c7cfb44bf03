-- `run_actions::count_turn` meets its contract. Assumes nothing.
use Rattle.run_actions.proofs.Laws.{turned}
use borrow.Author.Rules.{rules}
use Rattle.run_actions.proofs.count_turn.Statement.{statement}
use Rattle.run_actions.proofs.count_turn.Tie as tie

returns : tie.Need-returns
returns c = let s = c in turned s.args.counts.now s.args.k s.requires

pub count_turn_spec : {M : Type 1} → statement M
count_turn_spec =
    tie.close
    (tie.spec
    (λ c. search rules) (λ c. search rules) (λ c. search rules) (λ c. search rules)
    (λ c. search rules) (λ c. search rules) (λ c. search rules) (λ c. search rules)
    (λ c. search rules) (λ c. search rules) (λ c. search rules) (λ c. search rules)
    returns)
