-- The questions in their order.
use borrow.Author.Rules.{sfits_of}
use mathlib.Core.Path.{sym, ap, ◌∙◌}
use native.Mathlib.Omega.{arith}
use mir.Syntax.{w64}
use mir.Val.{SFits}
use mir.Facts.{to_z-of_z}
use Rattle.rules.specs.Ranges.{sort, edge}
use Rattle.rules.specs.Turns.{at_test}
use Rattle.rules.specs.Questions.{has_figure}
use Rattle.analysis_loops.specs.Found.{trip_of}
use Rattle.analysis_intervals.specs.Wide.{wide_range}
use Rattle.analysis_turns.specs.Needs.{Countable}
use Rattle.analysis_turns.proofs.Answers.{countable, turns_few}
use Rattle.analysis_turns.proofs.MovesLaws.{ranged}
use Rattle.analysis_turns.proofs.Verdicts.{refused_19, refused_8, refused_9, refused_10, refused_11, refused_12, accepted, not_yes, not_no}
use Rattle.analysis_turns.proofs.ask.Goals as goal

pub returns-then-not-trip : goal.returns-then-not-trip
returns-then-not-trip c = refused_19 (trip_of c.args.trip) (not_yes c.if-not-trip.true)

pub returns-then-not-known : goal.returns-then-not-known
returns-then-not-known c = refused_8 (trip_of c.args.trip) (not_no c.if-not-trip.false) (sym c.known.ensures ∙ c.if-not-known.true)

pub returns-then-not-moving : goal.returns-then-not-moving
returns-then-not-moving c = refused_9 (trip_of c.args.trip) (not_no c.if-not-trip.false) (sym c.known.ensures ∙ c.if-not-known.false) (sym c.moving.ensures ∙ c.if-not-moving.true)

pub returns-then-not-trip-2 : goal.returns-then-not-trip-2
returns-then-not-trip-2 c = refused_10 (trip_of c.args.trip) (not_no c.if-not-trip.false) (sym c.known.ensures ∙ c.if-not-known.false) (sym c.moving.ensures ∙ c.if-not-moving.false) (not_yes c.if-not-trip-2.true)

pub returns-then-not-suits : goal.returns-then-not-suits
returns-then-not-suits c = refused_11 (trip_of c.args.trip) (not_no c.if-not-trip.false) (sym c.known.ensures ∙ c.if-not-known.false) (sym c.moving.ensures ∙ c.if-not-moving.false) (not_no c.if-not-trip-2.false) (sym c.suits.ensures ∙ c.if-not-suits.true)

pub at_test-r-requires : goal.at_test-r-requires
at_test-r-requires c = (c.requires, sym c.moving.ensures ∙ c.if-not-moving.false, c.start_of-start.ensures.1)

pub has_figure-requires : goal.has_figure-requires
has_figure-requires c = (c.requires, sym c.moving.ensures ∙ c.if-not-moving.false, c.at_test-r.ensures.1, ranged _ c.limit_of-limit.ensures.1)

pub returns-then-not-has_figure : goal.returns-then-not-has_figure
returns-then-not-has_figure c =
    let t = c.args.trip in
    let τ = trip_of t in
    let f : SFits w64 c.edge-e.result = sfits_of c.edge-e.type_inv in
    let h = rw (to_z-of_z f) at c.has_figure.ensures in
    refused_12 τ (not_no c.if-not-trip.false) (sym c.known.ensures ∙ c.if-not-known.false) (sym c.moving.ensures ∙ c.if-not-moving.false) (not_no c.if-not-trip-2.false) (sym c.suits.ensures ∙ c.if-not-suits.false) _ _ _
    (c.at_test-r.ensures.0 ∙ ap (at_test t.moved t.step) c.start_of-start.ensures.0) c.limit_of-limit.ensures.0 (c.edge-e.ensures.0 ∙ ap (edge t.comparison) c.limit_of-limit.ensures.0)
    (sym (h ∙ ap (λ s. has_figure τ.step (sort τ.comparison) s (wide_range c.at_test-r.result) (wide_range c.limit_of-limit.result) c.edge-e.result) c.start_of-start.ensures.0) ∙ c.if-not-has_figure.true)

pub while_turns-more-requires : goal.while_turns-more-requires
while_turns-more-requires c =
    let t = c.args.trip in
    let f : SFits w64 c.edge-e.result = sfits_of c.edge-e.type_inv in
    let h = rw (to_z-of_z f) at c.has_figure.ensures in
    rw (to_z-of_z f) (countable t.moved t.step (sort t.comparison) _ _ _ _ c.requires c.edge-e.ensures.1 (ranged _ c.limit_of-limit.ensures.1) c.at_test-r.ensures.0 c.at_test-r.ensures.1 (sym c.moving.ensures ∙ c.if-not-moving.false) (sym c.suits.ensures ∙ c.if-not-suits.false) (sym h ∙ c.if-not-has_figure.false))

pub led-requires : goal.led-requires
led-requires c =
    let t = c.args.trip in
    let f : SFits w64 c.edge-e.result = sfits_of c.edge-e.type_inv in
    let h = rw (to_z-of_z f) at c.has_figure.ensures in
    let k = rw (to_z-of_z f) at c.while_turns-more.ensures in
    let n : Countable t.step (sort t.comparison) c.at_test-r.result c.limit_of-limit.result c.edge-e.result = countable t.moved t.step (sort t.comparison) _ _ _ _ c.requires c.edge-e.ensures.1 (ranged _ c.limit_of-limit.ensures.1) c.at_test-r.ensures.0 c.at_test-r.ensures.1 (sym c.moving.ensures ∙ c.if-not-moving.false) (sym c.suits.ensures ∙ c.if-not-suits.false) (sym h ∙ c.if-not-has_figure.false) in
    omega (arith, turns_few t.step (sort t.comparison) c.at_test-r.result c.limit_of-limit.result c.edge-e.result n)

pub returns : goal.returns
returns c =
    let t = c.args.trip in
    let τ = trip_of t in
    let f : SFits w64 c.edge-e.result = sfits_of c.edge-e.type_inv in
    let h = rw (to_z-of_z f) at c.has_figure.ensures in
    let k = rw (to_z-of_z f) at c.while_turns-more.ensures in
    let l = rw (to_z-of_z f) at c.led.ensures in
    accepted τ (not_no c.if-not-trip.false) (sym c.known.ensures ∙ c.if-not-known.false) (sym c.moving.ensures ∙ c.if-not-moving.false) (not_no c.if-not-trip-2.false) (sym c.suits.ensures ∙ c.if-not-suits.false) _ _ _
    (c.at_test-r.ensures.0 ∙ ap (at_test t.moved t.step) c.start_of-start.ensures.0) c.limit_of-limit.ensures.0 (c.edge-e.ensures.0 ∙ ap (edge t.comparison) c.limit_of-limit.ensures.0)
    (sym (h ∙ ap (λ s. has_figure τ.step (sort τ.comparison) s (wide_range c.at_test-r.result) (wide_range c.limit_of-limit.result) c.edge-e.result) c.start_of-start.ensures.0) ∙ c.if-not-has_figure.false) _ k _ l
