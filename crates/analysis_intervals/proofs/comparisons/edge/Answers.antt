-- The end that the test reads, and the numbers beside it, are small.
use mathlib.Core.Path.{refl}
use mathlib.Core.Logic.{inl, inr}
use lib.IntN.{pos}
use mir.Facts.{to_z-of_z}
use Rattle.ints.proofs.Parts.{ints, add_parts, minus_parts}
use Rattle.rules.specs.Ranges.{edge}
use Rattle.analysis_intervals.proofs.Small.{small}
use Rattle.analysis_intervals.proofs.comparisons.edge.Goals as goal

pub returns-in-Less : goal.returns-in-Less
unfolding edge
returns-in-Less c = let h = small _ c.requires.high in rw c.in-Less.is (simp (to_z-of_z h.a64, to_z-of_z h.less) (refl, h.less_near, omega (ints, minus_parts c.args.n.hi (pos 1))))

pub returns-in-AtMost : goal.returns-in-AtMost
unfolding edge
returns-in-AtMost c = let h = small _ c.requires.high in rw c.in-AtMost.is (simp (to_z-of_z h.a64) (refl, h.near, omega ints))

pub returns-in-Greater : goal.returns-in-Greater
unfolding edge
returns-in-Greater c = let h = small _ c.requires.low in rw c.in-Greater.is (simp (to_z-of_z h.a64, to_z-of_z h.more) (refl, h.more_near, omega (ints, add_parts c.args.n.lo (pos 1))))

pub returns-in-AtLeast : goal.returns-in-AtLeast
unfolding edge
returns-in-AtLeast c =
    let h = small _ c.requires.low in
    elim c.in-AtLeast.is [
      | inl e ↦ rw e (simp (to_z-of_z h.a64) (refl, h.near, omega ints))
      | inr e ↦ elim e [
        | inl e ↦ rw e (simp (to_z-of_z h.a64) (refl, h.near, tt))
        | inr e ↦ rw e (simp (to_z-of_z h.a64) (refl, h.near, tt))
      ]
    ]
