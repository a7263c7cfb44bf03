-- `calls::figures::line_numbers` meets its contract. Assumes nothing.
use borrow.Author.Rules.{rules}
use Rattle.calls.proofs.figures.line_numbers.Statement.{statement}
use Rattle.calls.proofs.figures.line_numbers.Tie as tie

pub line_numbers_spec : {M : Type 1} → statement M
line_numbers_spec =
    tie.close
    (tie.spec
    (λ c κs. search rules) (λ c κs. search rules) (λ c κs. search rules) (λ c κs. search rules)
    (λ c. rw (c.flag.ensures, c.second_end.ensures, c.first_end.ensures, c.step_number.ensures)))
