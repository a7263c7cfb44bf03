-- `calls::figures::first_end` meets its contract. Assumes nothing.
use mir.Facts.{to_z-of_z}
use mir.Syntax.{w64}
use mir.Val.{SFits}
use borrow.Author.Rules.{rules}
use Rattle.rules.specs.Report.{first_end}
use Rattle.calls.specs.Figures.{twos}
use Rattle.calls.proofs.figures.first_end.Statement.{statement}
use Rattle.calls.proofs.figures.first_end.Tie as tie

returns : tie.Need-returns-in-Add
unfolding first_end
returns c =
    let f : SFits w64 c.in-Add.a = search rules in
    rw c.in-Add.is (simp (to_z-of_z f) at c.twos_complement.ensures)

pub first_end_spec : {M : Type 1} → statement M
unfolding first_end twos
first_end_spec =
    tie.close
    (tie.spec
    (λ c. search rules) (λ c κs. search rules) (λ c. search rules) (λ c. search rules) (λ c. search rules)
    returns
    (λ c. rw c.in-Grow.is)
    (λ c. rw c.in-Shrink.is)
    (λ c. rw c.in-Unknown.is))
