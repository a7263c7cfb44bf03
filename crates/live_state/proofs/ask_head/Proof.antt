-- `live_state::ask_head` meets its contract. Assumes nothing.
use mathlib.Core.Path.{sym, ◌∙◌}
use borrow.Author.Tests.{le-leb, lt-leb, not-true, not-false}
use Rattle.rules_live.specs.LiveState.{head_checks}
use Rattle.live_state.proofs.StateLaws.{no_0, no_1, no_2, no_3, no_4, no_5, six_yes}
use borrow.Author.Rules.{rules}
use native.Mathlib.Omega.{arith}
use Rattle.live_state.proofs.ask_head.Statement.{statement}
use Rattle.live_state.proofs.ask_head.Tie as tie

returns : tie.Need-returns-then-status-gt-RANGE
unfolding head_checks
returns c s g = c.no.ensures ∙ no_0 _ _ _ _ _ _ (lt-leb _ 4 c.if-status-gt-RANGE.true)

returns_2 : tie.Need-returns-then-not-row_fits
unfolding head_checks
returns_2 c s g = c.no-then-not-row_fits.ensures ∙ no_1 _ _ _ _ _ _ (le-leb _ 4 c.if-status-gt-RANGE.false) (sym (c.row_fits.ensures s g) ∙ not-true _ c.if-not-row_fits.true-raw)

returns_3 : tie.Need-returns-then-not-phase_fits
unfolding head_checks
returns_3 c s g = c.no-then-not-phase_fits.ensures ∙ no_2 _ _ _ _ _ _ (le-leb _ 4 c.if-status-gt-RANGE.false) (sym (c.row_fits.ensures s g) ∙ not-false _ c.if-not-row_fits.false-raw) (sym (c.phase_fits.ensures s g) ∙ not-true _ c.if-not-phase_fits.true-raw)

returns-4 : tie.Need-returns-then-not-left_fits
unfolding head_checks
returns-4 c s g = c.no-then-not-left_fits.ensures ∙ no_3 _ _ _ _ _ _ (le-leb _ 4 c.if-status-gt-RANGE.false) (sym (c.row_fits.ensures s g) ∙ not-false _ c.if-not-row_fits.false-raw) (sym (c.phase_fits.ensures s g) ∙ not-false _ c.if-not-phase_fits.false-raw) (sym c.left_fits.ensures ∙ not-true _ c.if-not-left_fits.true-raw)

returns-5 : tie.Need-returns-then-state-ticks
unfolding head_checks
returns-5 c s g = c.no-then-state-ticks.ensures ∙ no_4 _ _ _ _ _ _ (le-leb _ 4 c.if-status-gt-RANGE.false) (sym (c.row_fits.ensures s g) ∙ not-false _ c.if-not-row_fits.false-raw) (sym (c.phase_fits.ensures s g) ∙ not-false _ c.if-not-phase_fits.false-raw) (sym c.left_fits.ensures ∙ not-false _ c.if-not-left_fits.false-raw) (lt-leb _ _ c.if-state-ticks.true)

returns-6 : tie.Need-returns-then-state
unfolding head_checks
returns-6 c s g = c.no-then-state.ensures ∙ no_5 _ _ _ _ _ _ (le-leb _ 4 c.if-status-gt-RANGE.false) (sym (c.row_fits.ensures s g) ∙ not-false _ c.if-not-row_fits.false-raw) (sym (c.phase_fits.ensures s g) ∙ not-false _ c.if-not-phase_fits.false-raw) (sym c.left_fits.ensures ∙ not-false _ c.if-not-left_fits.false-raw) (le-leb _ _ c.if-state-ticks.false) (lt-leb _ _ c.if-state.true)

returns-7 : tie.Need-returns
unfolding head_checks
returns-7 c s g = six_yes _ _ _ _ _ _ (le-leb _ 4 c.if-status-gt-RANGE.false) (sym (c.row_fits.ensures s g) ∙ not-false _ c.if-not-row_fits.false-raw) (sym (c.phase_fits.ensures s g) ∙ not-false _ c.if-not-phase_fits.false-raw) (sym c.left_fits.ensures ∙ not-false _ c.if-not-left_fits.false-raw) (le-leb _ _ c.if-state-ticks.false) (le-leb _ _ c.if-state.false)

row-fits-requires : tie.Need-row_fits-requires
row-fits-requires c κs = let g = c.requires.0.1 in (g.size, g.table.size)

phase-fits-requires : tie.Need-phase_fits-requires
phase-fits-requires c κs = c.requires.0

pub ask_head_spec : {M : Type 1} → statement M
ask_head_spec =
    tie.close
    (tie.spec
    (λ c. search rules) (λ c. search rules) (λ c κs. search rules)
    returns
    row-fits-requires
    (λ c κs. search rules)
    returns_2
    (λ c. search rules)
    phase-fits-requires
    (λ c κs. search rules)
    returns_3
    (λ c. search rules) (λ c κs. search rules) (λ c κs. search rules)
    returns-4
    (λ c. search rules) (λ c κs. search rules)
    returns-5
    (λ c. search rules) (λ c. search rules) (λ c κs. search rules)
    returns-6
    returns-7)
