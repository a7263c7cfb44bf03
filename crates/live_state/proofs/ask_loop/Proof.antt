-- `live_state::ask_loop` meets its contract. Assumes nothing.
use mathlib.Core.Path.{sym, ◌∙◌, ap}
use borrow.Author.Tests.{le-leb, lt-leb, not-true, not-false}
use Rattle.rules_live.specs.LiveState.{first_no}
use Rattle.live_state.proofs.StateLaws.{first_no_lem, second_no, third_no, three_yes, loop_is}
use borrow.Author.Rules.{rules}
use native.Mathlib.Omega.{arith}
use Rattle.live_state.proofs.ask_loop.Statement.{statement}
use Rattle.live_state.proofs.ask_loop.Tie as tie

returns : tie.Need-returns-then-turns-line
returns c =
    let a = c.args in
    c.no.ensures ∙ first_no_lem a.j _ _ _ (lt-leb _ _ c.if-turns-line.true) ∙ ap (first_no a.j) (sym (loop_is a.state.now a.j a.line))

returns_2 : tie.Need-returns-then-not-all_fit
returns_2 c =
    let a = c.args in
    c.no-then-not-all_fit.ensures ∙ second_no a.j _ _ _ (le-leb _ _ c.if-turns-line.false) (sym c.all_fit.ensures ∙ not-true _ c.if-not-all_fit.true-raw)
    ∙ ap (first_no a.j) (sym (loop_is a.state.now a.j a.line))

returns_3 : tie.Need-returns-then-not-most_fit
returns_3 c =
    let a = c.args in
    c.no-then-not-most_fit.ensures ∙ third_no a.j _ _ _ (le-leb _ _ c.if-turns-line.false) (sym c.all_fit.ensures ∙ not-false _ c.if-not-all_fit.false-raw) (sym c.most_fit.ensures ∙ not-true _ c.if-not-most_fit.true-raw)
    ∙ ap (first_no a.j) (sym (loop_is a.state.now a.j a.line))

returns-4 : tie.Need-returns
returns-4 c =
    let a = c.args in
    three_yes a.j _ _ _ (le-leb _ _ c.if-turns-line.false) (sym c.all_fit.ensures ∙ not-false _ c.if-not-all_fit.false-raw) (sym c.most_fit.ensures ∙ not-false _ c.if-not-most_fit.false-raw)
    ∙ ap (first_no a.j) (sym (loop_is a.state.now a.j a.line))

pub ask_loop_spec : {M : Type 1} → statement M
ask_loop_spec =
    tie.close
    (tie.spec
    (λ c. search rules) (λ c. search rules) (λ c. search rules) (λ c. search rules) (λ c. search rules) (λ c. search rules) (λ c. search rules) (λ c. search rules) (λ c. search rules) (λ c. search rules) (λ c κs. search rules)
    returns
    (λ c κs. search rules) (λ c. search rules) (λ c κs. search rules)
    returns_2
    (λ c κs. search rules) (λ c. search rules) (λ c κs. search rules)
    returns_3
    returns-4)
