-- `answer_text::runs::add_text` meets its contract. Assumes nothing.
use borrow.Author.Rules.{rules}
use native.Mathlib.Omega.{arith}
use mathlib.Core.Path.{refl}
use lib.ListN.{length-drop}
use Rattle.report.proofs.PiecesLaws.{part_rest, wrote_copy}
use Rattle.answer_text.proofs.RunsLaws.{adds_part}
use Rattle.answer_text.proofs.runs.add_text.Statement.{statement}
use Rattle.answer_text.proofs.runs.add_text.Tie as tie

returns : tie.Need-returns
returns c = adds_part _ _ _ _ _ c.requires (wrote_copy _ _ _ _ _ refl c.copy.ensures.0 c.copy.ensures.1)

pub add_text_spec : {M : Type 1} → statement M
add_text_spec = tie.close (tie.spec
    (λ c. omega (arith, c.requires))
    (λ c. omega (arith, c.requires))
    (λ c. search rules)
    (λ c κs. simp (part_rest, length-drop) (omega (arith, c.requires)))
    (λ c. omega (arith, c.requires, c.copy.ensures.0))
    (λ c. (returns c).long)
    returns)
