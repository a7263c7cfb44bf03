use Rattle.reading.proofs.WordsLaws.{no_keyword}
use borrow.Author.Rules.{rules}
use Rattle.reading.proofs.words.step_of.Statement.{statement}
use Rattle.reading.proofs.words.step_of.Tie as tie

pub step_of_spec : {M : Type 1} → statement M
step_of_spec =
    tie.close
    (tie.spec
    (λ c. search rules)
    (λ c κs. rw c.in-Keyword.is at c.requires)
    (λ c. rw c.in-Keyword.is c.change_of.ensures)
    (λ c. ((no_keyword c.args.x c.in_default.in_default-own.keys2).0 _).1))
