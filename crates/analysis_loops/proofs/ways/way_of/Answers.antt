-- Which of the three ways is asked for.
use mathlib.Core.Path.{◌≡◌, refl, sym, ap, ◌∙◌}
use mathlib.Core.Bool.{Bool, false, false≢true}
use mathlib.Core.List.{List}
use Prim.Native.Nat.{ℕ}
use Rattle.rules.specs.declared.Row.{Row}
use Rattle.rules_steps.specs.declared.Step.{Step}
use Rattle.rules_steps.specs.declared.Step.TheVariants.{Unknown}
use Rattle.rules.specs.Questions.{known}
use Rattle.analysis_loops.specs.Ways.{SoleFrom, WayFrom}
use Rattle.analysis_loops.proofs.WaysLaws.{kept_way}
use Rattle.analysis_loops.proofs.ways.way_of.Goals as goal

not_known : (st : Step) → known st ≡ false → st ≡ Unknown
unfolding known
not_known (Step.Add a b) h = absurd (false≢true (sym h))
not_known (Step.Grow f g) h = absurd (false≢true (sym h))
not_known (Step.Shrink f g) h = absurd (false≢true (sym h))
not_known Step.Unknown h = refl

sole_from : {text : List ℕ} {rows : List Row} {count i : ℕ} {held kept : Bool} {st : Step} → WayFrom text rows count i held st kept → held ≡ false → known st ≡ false → SoleFrom text rows count i
sole_from {st = st} p h k = record { loop = p.loop; form = sym p.form ∙ h; own = sym p.own ∙ not_known st k }

pub sole_way-requires : goal.sole_way-requires
sole_way-requires c = let (text, p) = c.requires in (text, sole_from p c.if-held.false (sym c.known.ensures ∙ c.if-not-known.true))

pub returns-then-not-known : goal.returns-then-not-known
returns-then-not-known c = λ text p. c.sole_way.ensures text (sole_from p c.if-held.false (sym c.known.ensures ∙ c.if-not-known.true))

pub returns-then-kept : goal.returns-then-kept
returns-then-kept c = λ text p.
    record { value = kept_way _ _ _ (sym p.form ∙ c.if-held.false) (ap known (sym p.own) ∙ sym c.known.ensures ∙ c.if-not-known.false) (sym p.limit ∙ c.if-kept.true); small = tt; moves = tt }
