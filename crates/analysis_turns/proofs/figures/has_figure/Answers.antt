-- Question 12 by the step.
use borrow.Author.Rules.{rules}
use mathlib.Core.Path.{sym, ◌∙◌}
use borrow.Author.Tests.{ne_eqb}
use mir.Syntax.{w64}
use mir.Val.{SFits}
use mir.Facts.{to_z-of_z}
use Rattle.ints.proofs.Parts.{eq_z_yes, eq_z_no}
use Rattle.rules.specs.Questions.{has_figure}
use Rattle.analysis_turns.proofs.Answers.{not_still, near_step}
use Rattle.analysis_turns.proofs.MovesLaws.{add_other, add_uneven, add_even}
use Rattle.analysis_turns.proofs.figures.has_figure.Goals as goal

pub meets-requires : goal.meets-requires
meets-requires c =
    let fa : SFits w64 c.in-Add.a = search rules in
    let fb : SFits w64 c.in-Add.b = search rules in
    let p = rw c.in-Add.is at c.requires.0 in
    let m = rw c.in-Add.is at c.requires.1 in
    let b = rw c.in-Add.is at c.requires.2 in
    rw (to_z-of_z fa) (near_step _ p.0, not_still _ _ m (eq_z_yes _ _ fa fb c.if-a-b.true), b, c.requires.3)

pub returns-then-not-is_differ : goal.returns-then-not-is_differ
returns-then-not-is_differ c =
    let e = sym c.is_differ.ensures ∙ c.if-not-is_differ.true in
    rw (c.in-Add.is, c.if-not-is_differ.true) (add_other _ _ _ _ _ _ _ e)

pub returns-then-a-b : goal.returns-then-a-b
returns-then-a-b c =
    let fa : SFits w64 c.in-Add.a = search rules in
    let fb : SFits w64 c.in-Add.b = search rules in
    rw (c.in-Add.is, c.meets.ensures, to_z-of_z fa) (add_even _ _ _ _ _ _ _ (sym c.is_differ.ensures ∙ c.if-not-is_differ.false) (eq_z_yes _ _ fa fb c.if-a-b.true))

pub returns-else-a-b : goal.returns-else-a-b
returns-else-a-b c =
    let fa : SFits w64 c.in-Add.a = search rules in
    let fb : SFits w64 c.in-Add.b = search rules in
    rw (c.in-Add.is, ne_eqb _ _ c.if-a-b.false) (add_uneven _ _ _ _ _ _ _ (sym c.is_differ.ensures ∙ c.if-not-is_differ.false) (eq_z_no _ _ fa fb c.if-a-b.false))

pub returns-in-Grow : goal.returns-in-Grow
unfolding has_figure
returns-in-Grow c = let f : SFits w64 c.args.s.lo = search rules in rw c.in-Grow.is (simp (to_z-of_z f))

pub returns-in-Shrink : goal.returns-in-Shrink
unfolding has_figure
returns-in-Shrink c = rw c.in-Shrink.is (simp (to_z-of_z c.ranges.e))

pub returns-in-Unknown : goal.returns-in-Unknown
unfolding has_figure
returns-in-Unknown c = rw c.in-Unknown.is
