-- Any other step is no Add.
use borrow.Author.Rules.{rules}
use mathlib.Core.Bool.{true, false≢true}
use mathlib.Core.Path.{◌≡◌, refl}
use lib.IntN.{ℤ}
use mir.Syntax.{w64}
use mir.Val.{SFits}
use mir.Facts.{to_z-of_z}
use Rattle.rules_steps.specs.declared.Step.{Step}
use Rattle.rules_steps.specs.declared.Step.TheVariants.{Add, Grow, Shrink, Unknown}
use Rattle.rules.specs.Steps.{is_add, first_end}
use Rattle.analysis_ticks.proofs.passes.first_end.Goals as goal

none : {A : Type 0} (st : Step) → ((a b : ℤ) → st ≡ Add a b → ⊥) → is_add st ≡ true → A
unfolding is_add
none (Add a b) f h = absurd (f a b refl)
none (Grow f g) o h = absurd (false≢true h)
none (Shrink f g) o h = absurd (false≢true h)
none Unknown o h = absurd (false≢true h)

pub returns-in-Add : goal.returns-in-Add
unfolding first_end
returns-in-Add c =
    let f : SFits w64 c.in-Add.a = search rules in
    let e = rw c.in-Add.is at c.requires.0 in
    rw c.in-Add.is (simp (to_z-of_z f) (refl, e.0))

pub returns-in_default : goal.returns-in_default
returns-in_default c = none c.args.step c.in_default.not-Add c.requires.1
