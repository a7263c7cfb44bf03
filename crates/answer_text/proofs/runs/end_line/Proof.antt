-- `answer_text::runs::end_line` meets its contract. Assumes nothing.
use borrow.Author.Rules.{rules}
use native.Mathlib.Omega.{arith}
use Rattle.answer_text.proofs.RunsLaws.{adds_byte}
use Rattle.answer_text.proofs.runs.end_line.Statement.{statement}
use Rattle.answer_text.proofs.runs.end_line.Tie as tie

pub end_line_spec : {M : Type 1} → statement M
end_line_spec = tie.close (tie.spec
    (λ c. omega (arith, c.requires))
    (λ c. search rules)
    (λ c. search rules)
    (λ c. adds_byte _ _ _ (omega (arith, c.requires))))
