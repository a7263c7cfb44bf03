use Rattle.reading.proofs.WordsLaws.{number_wider, no_change}
use Rattle.rules.specs.Values.{highest}
use lib.IntN.{pos}
use Rattle.ints.proofs.Parts.{ints}
use borrow.Author.Rules.{rules}
use Rattle.reading.proofs.words.change_of.Statement.{statement}
use Rattle.reading.proofs.words.change_of.Tie as tie

pub change_of_spec : {M : Type 1} → statement M
change_of_spec =
    tie.close
    (tie.spec
    (λ c. search rules) (λ c κs. search rules) (λ c. search rules) (λ c κs. search rules) (λ c. search rules)
    (λ c κs. number_wider (pos 1) highest (pos 0) highest c.args.w (omega ints) (omega ints) (rw c.in-Mul.is at c.requires))
    (λ c. search rules)
    (λ c κs. number_wider (pos 1) highest (pos 0) highest c.args.w (omega ints) (omega ints) (rw c.in-Div.is at c.requires))
    (λ c. rw (c.in-Add.is, c.amount.ensures))
    (λ c. rw (c.in-Sub.is, c.amount-in-Sub.ensures))
    (λ c. rw (c.in-Mul.is, c.amount-in-Mul.ensures))
    (λ c. rw (c.in-Div.is, c.amount-in-Div.ensures))
    (λ c. (no_change c.args.name c.args.w c.in_default.in_default-own.keys5).1))
