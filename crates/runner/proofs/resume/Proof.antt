-- `runner::resume` meets its contract: it is the one loop, without a list. Assumes nothing.
use mathlib.Core.Path.{refl}
use borrow.Author.Rules.{rules}
use Rattle.runner.proofs.resume.Statement.{statement}
use Rattle.runner.proofs.resume.Tie as tie

pub resume_spec : {M : Type 1} → statement M
resume_spec =
    tie.close
    (tie.spec
    (λ c. search rules)
    (λ c κs. c.requires)
    (λ c. search rules)
    (λ c. c.go_on-stop.ensures.run refl))
