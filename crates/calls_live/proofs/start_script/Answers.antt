-- `calls_live::start_script` meets its contract. Assumes nothing.
use mathlib.Core.Path.{refl, ap}
use borrow.Author.Rules.{rules}
use Rattle.std.specs.Prelude.{Ok}
use Rattle.rules.specs.Scripts.{Script, script_of}
use Rattle.rules.specs.Verdicts.{verdict_of}
use Rattle.rules.proofs.PassedOn.{passed_on}
use Rattle.analysis.specs.Whole.{analysis_answer}
use Rattle.calls.specs.Held.{read_script, FiguresFound}
use Rattle.calls.proofs.Tables.{four, fine, found_by}
use Rattle.calls_live.proofs.Starting.{start_out, stored_out, size_out, starts}
use Rattle.calls_live.proofs.start_script.Goals as goal
use Rattle.calls_live.proofs.start_script.Goals.{Start, After-figures_of, In_ok-figures}

-- the script that is read
abbrev script : Start → Script
script s = read_script s.args.text.now s.args.rows.now s.args.script s.args.ranges

pub prices_of-requires : goal.prices_of-requires
prices_of-requires c = four _ c.requires.1

pub figures_of-requires : goal.figures_of-requires
figures_of-requires c = (c.requires.0, fine c.args.prices.now c.requires.1 c.prices_of.ensures)

-- what the analysis found of it
found : (c : After-figures_of) → FiguresFound c.args.prices.now (read_script c.args.text.now c.args.rows.now c.args.script c.args.ranges) c.args.script.count (analysis_answer c.figures_of.result) c.figures_of.ensures.0
found c = found_by _ _ _ _ c.requires.0 c.args.prices.now c.prices_of.ensures (analysis_answer c.figures_of.result) _ c.figures_of.ensures.1

passes : (c : In_ok-figures) → FiguresFound c.args.prices.now (read_script c.args.text.now c.args.rows.now c.args.script c.args.ranges) c.args.script.count (analysis_answer (Ok c.in_ok-figures.figures)) c.figures_of.ensures.0
passes c = found_by _ _ _ _ c.requires.0 c.args.prices.now c.prices_of.ensures (analysis_answer (Ok c.in_ok-figures.figures)) _ (rw c.in_ok-figures.was at c.figures_of.ensures.1)

pub ask_store-requires : goal.ask_store-requires
ask_store-requires c = (c.requires.0.few, search rules)

pub returns-in_err-figures : goal.returns-in_err-figures
returns-in_err-figures c =
    let p = goal.at.returns-in_err-figures c in
    let e = c.in_err-figures in
    rw (passed_on c.from_residual.result e.field-0.0 c.from_residual.ensures)
    (start_out c.args.prices.now (script p.Start) _ _ _ (found p.After-figures_of) _ _ (ap (λ r. (analysis_answer r).verdict) e.was))

pub returns-in_err-ask_store : goal.returns-in_err-ask_store
unfolding script_of
returns-in_err-ask_store c =
    let p = goal.at.returns-in_err-ask_store c in
    let e = c.in_err-ask_store in
    let r = c.from_residual-in_err-ask_store in
    rw (passed_on r.result e.field-0.0 r.ensures)
    (stored_out c.args.prices.now (script p.Start) _ _ _ (passes p.In_ok-figures) _ _ refl _ c.ask_store.ensures (ap verdict_of e.was))

pub returns-then-state-ne-STATE : goal.returns-then-state-ne-STATE
unfolding script_of
returns-then-state-ne-STATE c =
    let p = goal.at.returns-then-state-ne-STATE c in
    size_out c.args.prices.now (script p.Start) _ _ _ (passes p.In_ok-figures) _ _ refl _ c.ask_store.ensures (ap verdict_of c.in_ok-ask_store.was) c.if-state-ne-STATE.true

pub clear-requires : goal.clear-requires
clear-requires c = c.if-state-ne-STATE.false

pub returns : goal.returns
unfolding script_of
returns c =
    let p = goal.at.returns c in
    starts c.args.prices.now (script p.Start) _ _ _ (passes p.In_ok-figures) _ _ refl _ c.ask_store.ensures (ap verdict_of c.in_ok-ask_store.was) c.if-state-ne-STATE.false _ c.clear.ensures
