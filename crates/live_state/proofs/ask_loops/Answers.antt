-- `live_state::ask_loops` meets its contract. Assumes nothing.
use mathlib.Core.Path.{refl, sym, ◌∙◌, ap}
use Rattle.rules.specs.Verdicts.{verdict_of}
use Rattle.rules.proofs.PassedOn.{passed_on}
use Rattle.live_state.proofs.StateLaws.{loops_on_lem, loops_no, loops_all}
use native.Mathlib.Omega.{arith}
use Rattle.live_state.proofs.ask_loops.Goals as goal

pub loop-k-init : goal.loop-k-init
loop-k-init c = refl

pub loop-k-preserved : goal.loop-k-preserved
loop-k-preserved c =
    let l = c.loop-k in
    let a = c.ask_loop in
    l.invariant ∙ loops_on_lem c.args.lines.now c.args.loops c.args.state.now l.k c.loop-k-test.true (omega (arith, c.requires.1, c.requires.2)) _ c.line_at.ensures (verdict_of a.result) a.ensures (ap verdict_of c.in_ok-ask_loop.was)

pub returns-in_err-ask_loop : goal.returns-in_err-ask_loop
returns-in_err-ask_loop c =
    let l = c.loop-k in
    let a = c.ask_loop in
    let e = c.in_err-ask_loop in
    rw (passed_on c.from_residual.result e.field-0.0 c.from_residual.ensures)
    (sym (ap verdict_of e.was) ∙ sym (l.invariant ∙ loops_no c.args.lines.now c.args.loops c.args.state.now l.k c.loop-k-test.true (omega (arith, c.requires.1, c.requires.2)) _ c.line_at.ensures (verdict_of a.result) a.ensures (ap verdict_of e.was)))

pub returns : goal.returns
returns c = let l = c.loop-k in sym (l.invariant ∙ loops_all c.args.lines.now c.args.loops c.args.state.now l.k (omega (arith, c.requires.1, c.requires.2)) (omega (arith, c.loop-k-test.false)))
