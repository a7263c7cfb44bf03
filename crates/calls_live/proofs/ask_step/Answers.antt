-- `calls_live::ask_step` meets its contract. Assumes nothing.
use mathlib.Core.Path.{sym, ◌∙◌, ap}
use borrow.Author.Rules.{rules}
use Rattle.rules.specs.Verdicts.{verdict_of}
use Rattle.rules.proofs.PassedOn.{passed_on}
use Rattle.calls_live.proofs.Asking.{store_no, state_no, ticks_no, all_yes}
use Rattle.calls_live.proofs.ask_step.Goals as goal

pub ask_store-requires : goal.ask_store-requires
ask_store-requires c = let g = c.requires.1 in (g.few, search rules)

pub ask_state-requires : goal.ask_state-requires
ask_state-requires c = let g = c.requires in (g.0, g.1.asked)

pub returns-in_err-ask_store : goal.returns-in_err-ask_store
returns-in_err-ask_store c s g =
    let e = c.in_err-ask_store in
    rw (passed_on c.from_residual.result e.field-0.0 c.from_residual.ensures)
    (sym (ap verdict_of e.was) ∙ store_no _ s _ _ _ _ g.vars_are g.few _ c.ask_store.ensures (ap verdict_of e.was))

pub returns-in_err-ask_state : goal.returns-in_err-ask_state
returns-in_err-ask_state c s g =
    let e = c.in_err-ask_state in
    let r = c.from_residual-in_err-ask_state in
    rw (passed_on r.result e.field-0.0 r.ensures)
    (sym (ap verdict_of e.was) ∙ state_no _ s _ _ _ _ g.vars_are g.few _ c.ask_store.ensures (ap verdict_of c.in_ok-ask_store.was) _ (c.ask_state.ensures s g.asked) (ap verdict_of e.was))

pub returns-then-script-gt-MOST_TICKS : goal.returns-then-script-gt-MOST_TICKS
returns-then-script-gt-MOST_TICKS c s g =
    ticks_no _ s _ _ _ _ g.vars_are g.few _ c.ask_store.ensures (ap verdict_of c.in_ok-ask_store.was) _ (c.ask_state.ensures s g.asked) (ap verdict_of c.in_ok-ask_state.was) c.if-script-gt-MOST_TICKS.true

pub returns : goal.returns
returns c s g =
    all_yes _ s _ _ _ _ g.vars_are g.few _ c.ask_store.ensures (ap verdict_of c.in_ok-ask_store.was) _ (c.ask_state.ensures s g.asked) (ap verdict_of c.in_ok-ask_state.was) c.if-script-gt-MOST_TICKS.false
