-- The turns of an Add by the sort of the test.
use borrow.Author.Rules.{rules}
use mathlib.Core.Path.{◌≡◌, refl, sym, ◌∙◌}
use mathlib.Core.Bool.{Bool, true, false, cond}
use lib.IntN.{ℤ, pos, negsuc, neg_ℤ}
use lib.Signed.{◌≤ℤ◌}
use mir.Syntax.{w64}
use mir.Val.{SFits, bool_byte}
use mir.Facts.{to_z-of_z}
use Rattle.ints.proofs.Parts.{ints, neg_parts}
use Rattle.rules_steps.specs.Ends.{Near}
use Rattle.rules.specs.Turns.{while_turns}
use Rattle.analysis_intervals.proofs.Sorts.{is_rising_lem, is_falling_lem, is_differ_lem, is_same}
use Rattle.analysis_turns.proofs.figures.add_turns.Goals as goal

far : (z : ℤ) → Near 1024 z → Near 4_000_000 z
far z h = omega ints

as_one : (b : Bool) → bool_byte b ≡ cond b 1 0
as_one true = refl
as_one false = refl

-- a falling step, turned up
up : (b : ℤ) → Near 1024 b → b ≤ℤ negsuc 0 → Near 1024 (neg_ℤ b) × (pos 1 ≤ℤ neg_ℤ b)
up b n h = omega (ints, neg_parts b)

pub climb-requires : goal.climb-requires
climb-requires c =
    let h = rw (is_rising_lem _ (sym c.rises.ensures ∙ c.if-rises.true)) at c.requires in
    let f : SFits w64 c.args.s.lo = search rules in
    simp (to_z-of_z f, to_z-of_z c.ranges.e, to_z-of_z c.ranges.a) (far _ h.0.low, far _ h.1, h.2, h.3)

pub returns-then-rises : goal.returns-then-rises
unfolding while_turns
returns-then-rises c =
    let f : SFits w64 c.args.s.lo = search rules in
    rw (c.climb.ensures, is_rising_lem _ (sym c.rises.ensures ∙ c.if-rises.true)) (simp (to_z-of_z f, to_z-of_z c.ranges.e, to_z-of_z c.ranges.a))

pub turned_up-requires : goal.turned_up-requires
turned_up-requires c =
    let h = rw (is_falling_lem _ (sym c.falls.ensures ∙ c.if-falls.true)) at c.requires in
    simp (to_z-of_z c.ranges.b) h.2

pub climb-requires-then-falls : goal.climb-requires-then-falls
climb-requires-then-falls c =
    let h = rw (is_falling_lem _ (sym c.falls.ensures ∙ c.if-falls.true)) at c.requires in
    let f : SFits w64 c.args.s.hi = search rules in
    let u = up _ h.2 h.3 in
    rw c.turned_up.ensures (simp (to_z-of_z f, to_z-of_z c.ranges.e, to_z-of_z c.ranges.b) (far _ h.1, far _ h.0.high, u.0, u.1))

pub returns-then-falls : goal.returns-then-falls
unfolding while_turns
returns-then-falls c =
    let f : SFits w64 c.args.s.hi = search rules in
    rw (c.climb-then-falls.ensures, c.turned_up.ensures, is_falling_lem _ (sym c.falls.ensures ∙ c.if-falls.true)) (simp (to_z-of_z f, to_z-of_z c.ranges.e, to_z-of_z c.ranges.b))

pub apart-requires : goal.apart-requires
apart-requires c =
    let h = rw (is_differ_lem _ (sym c.is_differ.ensures ∙ c.if-is_differ.true)) at c.requires in
    rw (to_z-of_z c.ranges.a) (h.0, h.1, h.2, h.3)

pub returns-then-is_differ : goal.returns-then-is_differ
unfolding while_turns
returns-then-is_differ c = rw (c.apart.ensures, is_differ_lem _ (sym c.is_differ.ensures ∙ c.if-is_differ.true)) (simp (to_z-of_z c.ranges.a))

pub returns : goal.returns
unfolding while_turns
returns c = rw (c.from.ensures, is_same _ (sym c.if-rises.false ∙ c.rises.ensures) (sym c.if-falls.false ∙ c.falls.ensures) (sym c.if-is_differ.false ∙ c.is_differ.ensures)) (rw c.share.ensures (as_one _))
