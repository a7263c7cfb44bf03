-- `live_state::ask_state` meets its contract. Assumes nothing.
use mathlib.Core.Path.{sym, ◌∙◌, ap}
use Rattle.rules.specs.Verdicts.{verdict_of}
use Rattle.rules.proofs.PassedOn.{passed_on}
use Rattle.live_state.proofs.StateLaws.{not_64, head_no, gap_no, counts_no, rest_last}
use native.Mathlib.Omega.{arith}
use Rattle.live_state.proofs.ask_state.Goals as goal

pub returns-then-state-ne-STATE : goal.returns-then-state-ne-STATE
returns-then-state-ne-STATE c s g = c.no.ensures ∙ sym (not_64 g _ c.if-state-ne-STATE.true)

pub ask_head-requires : goal.ask_head-requires
ask_head-requires c = let p = c.requires in ((p.0, p.1.rows), c.if-state-ne-STATE.false)

pub returns-in_err-ask_head : goal.returns-in_err-ask_head
returns-in_err-ask_head c s g =
    let e = c.in_err-ask_head in
    rw (passed_on c.from_residual.result e.field-0.0 c.from_residual.ensures) (sym (ap verdict_of e.was) ∙ head_no g _ c.if-state-ne-STATE.false _ (c.ask_head.ensures s g.rows) (ap verdict_of e.was))

pub returns-in_err-ask_zeros : goal.returns-in_err-ask_zeros
returns-in_err-ask_zeros c s g =
    let e = c.in_err-ask_zeros in
    let r = c.from_residual-in_err-ask_zeros in
    rw (passed_on r.result e.field-0.0 r.ensures)
    (sym (ap verdict_of e.was) ∙ gap_no g _ c.if-state-ne-STATE.false _ (c.ask_head.ensures s g.rows) (ap verdict_of c.in_ok-ask_head.was) _ c.ask_zeros.ensures (ap verdict_of e.was))

pub ask_loops-requires : goal.ask_loops-requires
ask_loops-requires c = let g = c.requires.1 in (c.if-state-ne-STATE.false, g.few, g.long)

pub returns-in_err-ask_loops : goal.returns-in_err-ask_loops
returns-in_err-ask_loops c s g =
    let e = c.in_err-ask_loops in
    let r = c.from_residual-in_err-ask_loops in
    rw (passed_on r.result e.field-0.0 r.ensures)
    (sym (ap verdict_of e.was) ∙ counts_no g _ c.if-state-ne-STATE.false _ (c.ask_head.ensures s g.rows) (ap verdict_of c.in_ok-ask_head.was) _ c.ask_zeros.ensures (ap verdict_of c.in_ok-ask_zeros.was) _ c.ask_loops.ensures (ap verdict_of e.was))

pub returns : goal.returns
returns c s g =
    rest_last g _ c.if-state-ne-STATE.false _ (c.ask_head.ensures s g.rows) (ap verdict_of c.in_ok-ask_head.was) _ c.ask_zeros.ensures (ap verdict_of c.in_ok-ask_zeros.was) _ c.ask_loops.ensures (ap verdict_of c.in_ok-ask_loops.was) _ c.ask_zeros-2.ensures
