-- The larger of an end and E, and the smaller, fit 32 bits and bound the range.
use borrow.Author.Rules.{rules, sfits_of}
use mathlib.Core.Bool.{Bool, true, false, cond}
use lib.IntN.{ℤ}
use mathlib.Core.Path.{◌≡◌, refl, sym, ◌∙◌}
use mir.Syntax.{w32, w64}
use mir.Val.{SFits}
use mir.Facts.{to_z-of_z}
use Rattle.ints.proofs.Parts.{ints, sfits_both, min_parts, max_parts, int_min-is, int_max-is}
use Rattle.rules.specs.Values.{lowest, highest}
use Rattle.rules.specs.Ranges.{full, edge, sort, inside_range}
use Rattle.analysis_intervals.specs.Env.{range_of}
use Rattle.analysis_intervals.proofs.Small.{word}
use Rattle.analysis_intervals.proofs.Sorts.{is_rising_lem, is_falling_lem, unordered}
use Rattle.analysis_intervals.proofs.inside_interval.Goals as goal
use Rattle.analysis_intervals.proofs.inside_interval.Goals.{then-is_moved, else-is_moved, then-is_moved-2, else-is_moved-2}

fits_cond : (b : Bool) {x y : ℤ} → SFits w32 x → SFits w32 y → SFits w32 (cond b x y)
fits_cond true f g = f
fits_cond false f g = g

last-rises : (c : goal.After-max) → (c.from-then-rises.result ≡ cond c.args.is_moved c.args.s.hi c.args.s.lo) × SFits w32 c.from-then-rises.result
last-rises c =
    let f : SFits w32 c.args.s.hi = search rules in
    let g : SFits w32 c.args.s.lo = search rules in
    let e : c.from-then-rises.result ≡ cond c.args.is_moved c.args.s.hi c.args.s.lo = c.from-then-rises.ensures ∙ elim c.if-is_moved.branch [
      | then-is_moved w ↦ w.last-is ∙ rw w.if-is_moved.true (simp to_z-of_z)
      | else-is_moved w ↦ w.last-is ∙ rw w.if-is_moved.false (simp to_z-of_z)
    ] in
    (e, rw e (fits_cond c.args.is_moved f g))

bound-rises : (c : goal.After-max) → SFits w32 c.max.result × (record { lo = c.args.s.lo; hi = c.max.result } ≡ inside_range c.args.is_moved (sort c.args.comparison) (range_of c.args.s) (edge c.args.comparison (range_of c.args.n)))
unfolding inside_range
bound-rises c =
    let a = c.args in
    let (e, g) = last-rises c in
    let f2 : SFits w32 a.n.hi = search rules in
    let k = rw c.from.ensures.0 at c.edge-e.ensures in
    let f : SFits w64 c.edge-e.result = sfits_of c.edge-e.type_inv in
    let q = is_rising_lem (sort a.comparison) (sym c.rises.ensures ∙ c.if-rises.true) in
    let l = rw q at k.2 in
    let m = (simp (to_z-of_z (word _ g).a64, to_z-of_z f) at c.max.ensures.value) ∙ int_max-is c.from-then-rises.result c.edge-e.result in
    (rw m (omega (ints, sfits_both g, sfits_both f2, max_parts c.from-then-rises.result c.edge-e.result)), rw (q, m, e, k.0) refl)

last-falls : (c : goal.After-min) → (c.from-then-falls.result ≡ cond c.args.is_moved c.args.s.lo c.args.s.hi) × SFits w32 c.from-then-falls.result
last-falls c =
    let f : SFits w32 c.args.s.lo = search rules in
    let g : SFits w32 c.args.s.hi = search rules in
    let e : c.from-then-falls.result ≡ cond c.args.is_moved c.args.s.lo c.args.s.hi = c.from-then-falls.ensures ∙ elim c.if-is_moved-2.branch [
      | then-is_moved-2 w ↦ w.last-is ∙ rw w.if-is_moved-2.true (simp to_z-of_z)
      | else-is_moved-2 w ↦ w.last-is ∙ rw w.if-is_moved-2.false (simp to_z-of_z)
    ] in
    (e, rw e (fits_cond c.args.is_moved f g))

bound-falls : (c : goal.After-min) → SFits w32 c.min.result × (record { lo = c.min.result; hi = c.args.s.hi } ≡ inside_range c.args.is_moved (sort c.args.comparison) (range_of c.args.s) (edge c.args.comparison (range_of c.args.n)))
unfolding inside_range
bound-falls c =
    let a = c.args in
    let (e, g) = last-falls c in
    let f2 : SFits w32 a.n.lo = search rules in
    let k = rw c.from.ensures.0 at c.edge-e.ensures in
    let f : SFits w64 c.edge-e.result = sfits_of c.edge-e.type_inv in
    let q = is_falling_lem (sort a.comparison) (sym c.falls.ensures ∙ c.if-falls.true) in
    let l = rw q at k.2 in
    let m = (simp (to_z-of_z (word _ g).a64, to_z-of_z f) at c.min.ensures.value) ∙ int_min-is c.from-then-falls.result c.edge-e.result in
    (rw m (omega (ints, sfits_both g, sfits_both f2, min_parts c.from-then-falls.result c.edge-e.result)), rw (q, m, e, k.0) refl)

pub overflow_cast-result : goal.overflow_cast-result
overflow_cast-result c = let f : SFits w64 c.max.result = sfits_of c.max.type_inv in simp (to_z-of_z f) (bound-rises c).0

pub returns-then-rises : goal.returns-then-rises
returns-then-rises c = let f : SFits w64 c.max.result = sfits_of c.max.type_inv in let g : SFits w32 c.args.s.lo = search rules in rw (to_z-of_z f, to_z-of_z (bound-rises c.before).0, to_z-of_z g) (bound-rises c.before).1

pub overflow_cast-result-then-falls : goal.overflow_cast-result-then-falls
overflow_cast-result-then-falls c = let f : SFits w64 c.min.result = sfits_of c.min.type_inv in simp (to_z-of_z f) (bound-falls c).0

pub returns-then-falls : goal.returns-then-falls
returns-then-falls c = let f : SFits w64 c.min.result = sfits_of c.min.type_inv in let g : SFits w32 c.args.s.hi = search rules in rw (to_z-of_z f, to_z-of_z (bound-falls c.before).0, to_z-of_z g) (bound-falls c.before).1

pub returns : goal.returns
unfolding inside_range lowest highest
returns c = let a = c.args in unordered (λ d. full ≡ inside_range a.is_moved d (range_of a.s) (edge a.comparison (range_of a.n))) (sort a.comparison) (sym c.rises.ensures ∙ c.if-rises.false) (sym c.falls.ensures ∙ c.if-falls.false) refl refl
