-- < and <=.
use mathlib.Core.Path.{◌≡◌, refl, sym, ◌∙◌}
use Rattle.rules.specs.declared.Comparison.{Comparison}
use Rattle.rules.specs.declared.Comparison.TheVariants.{Less, AtMost, Greater, AtLeast, Equal, Different}
use Rattle.rules.specs.Values.{upward}
use Rattle.rules.specs.Ranges.{sort}
use Rattle.analysis_intervals.specs.Sorts.{is_rising}
use Rattle.analysis_ticks.proofs.passes.is_up_to.Goals as goal

up : (c : Comparison) → upward c ≡ is_rising (sort c)
up Less = refl
up AtMost = refl
up Greater = refl
up AtLeast = refl
up Equal = refl
up Different = refl

pub returns-then-rises : goal.returns-then-rises
returns-then-rises c = λ text h. rw (up c.args.comparison, sym c.rises.ensures ∙ c.if-rises.true) (c.is_alone.ensures text h)

pub returns-else-rises : goal.returns-else-rises
returns-else-rises c = λ text h. rw (up c.args.comparison, sym c.rises.ensures, c.if-rises.false)
