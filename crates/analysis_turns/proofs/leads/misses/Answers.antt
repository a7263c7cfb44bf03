-- By the sort of the test.
use borrow.Author.Rules.{rules}
use mathlib.Core.Path.{◌≡◌, refl, sym, ◌∙◌}
use mathlib.Core.Bool.{false}
use mir.Syntax.{w32}
use mir.Val.{SFits}
use mir.Facts.{to_z-of_z}
use Rattle.rules.specs.Ranges.{sort}
use Rattle.rules.specs.Trips.{misses}
use Rattle.analysis_intervals.proofs.Small.{word}
use Rattle.analysis_intervals.proofs.Sorts.{is_rising_lem, is_falling_lem, unordered}
use Rattle.analysis_intervals.specs.Env.{range_of}
use Rattle.analysis_turns.proofs.leads.misses.Goals as goal

pub returns-then-rises : goal.returns-then-rises
unfolding misses
returns-then-rises c =
    let a = c.args in
    let f : SFits w32 a.s.lo = search rules in
    let h = word _ f in
    rw (is_rising_lem (sort a.comparison) (sym c.rises.ensures ∙ c.if-rises.true)) (simp (c.from.ensures, to_z-of_z f, to_z-of_z h.a64, to_z-of_z c.ranges.e))

pub returns-then-falls : goal.returns-then-falls
unfolding misses
returns-then-falls c =
    let a = c.args in
    let f : SFits w32 a.s.hi = search rules in
    let h = word _ f in
    rw (is_falling_lem (sort a.comparison) (sym c.falls.ensures ∙ c.if-falls.true)) (simp (c.from-then-falls.ensures, to_z-of_z f, to_z-of_z h.a64, to_z-of_z c.ranges.e))

pub returns-else-falls : goal.returns-else-falls
unfolding misses
returns-else-falls c =
    let a = c.args in
    unordered (λ d. false ≡ misses d (range_of a.s) a.e) (sort a.comparison) (sym c.rises.ensures ∙ c.if-rises.false) (sym c.falls.ensures ∙ c.if-falls.false) refl refl
