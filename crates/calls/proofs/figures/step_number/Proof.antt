-- `calls::figures::step_number` meets its contract. Assumes nothing.
use borrow.Author.Rules.{rules}
use Rattle.calls.specs.Figures.{step_number}
use Rattle.calls.proofs.figures.step_number.Statement.{statement}
use Rattle.calls.proofs.figures.step_number.Tie as tie

pub step_number_spec : {M : Type 1} → statement M
unfolding step_number
step_number_spec =
    tie.close
    (tie.spec
    (λ c. search rules) (λ c. search rules) (λ c. search rules) (λ c. search rules)
    (λ c. rw c.in-Add.is)
    (λ c. rw c.in-Grow.is)
    (λ c. rw c.in-Shrink.is)
    (λ c. rw c.in-Unknown.is))
