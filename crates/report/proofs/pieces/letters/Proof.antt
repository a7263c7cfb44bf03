use borrow.Author.Rules.{rules}
use Rattle.report.proofs.pieces.letters.Statement.{statement}
use Rattle.report.proofs.pieces.letters.Tie as tie

pub letters_spec : {M : Type 1} → statement M
letters_spec = tie.close (tie.spec
    (λ c. search rules) (λ c. search rules) (λ c. search rules) (λ c. search rules)
    (λ c. search rules) (λ c. search rules) (λ c. search rules) (λ c. search rules)
    (λ c. search rules) (λ c. search rules) (λ c. search rules) (λ c. search rules)
    (λ c. search rules) (λ c. search rules) (λ c. search rules) (λ c. search rules)
    (λ c. search rules) (λ c. search rules)
    (λ c. rw c.in-Space.is)
    (λ c. rw c.in-Newline.is)
    (λ c. search rules) (λ c. search rules) (λ c. search rules) (λ c. search rules)
    (λ c. search rules) (λ c. search rules))
