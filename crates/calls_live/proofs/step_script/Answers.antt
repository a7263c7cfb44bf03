-- `calls_live::step_script` meets its contract. Assumes nothing.
use mathlib.Core.Path.{◌≡◌, refl, sym, ◌∙◌, ap}
use lib.ListN.{length}
use borrow.Author.Rules.{rules}
use Rattle.std.specs.Prelude.{Ok}
use Rattle.rules.specs.Scripts.{Script}
use Rattle.rules.specs.Verdicts.{verdict_of}
use Rattle.rules.proofs.PassedOn.{passed_on}
use Rattle.analysis.specs.Whole.{analysis_answer, AnalysisOf}
use Rattle.calls.specs.Held.{read_script}
use Rattle.calls.proofs.Tables.{analyse_asks, found_by}
use Rattle.calls_live.proofs.Asking.{step_asked, step_ready, no_step_as, judged_out, asked_out, asked_in, step_as}
use Rattle.calls_live.proofs.step_script.Goals as goal
use Rattle.calls_live.proofs.step_script.Goals.{Start, After-analyse, In_ok-figures}

-- the script that is read
abbrev script : Start → Script
script s = read_script s.args.text.now s.args.rows.now s.args.turn.script s.args.ranges

full_ranges : (s : Start) → length s.args.ranges ≡ 16
full_ranges s = search rules

pub analyse-requires : goal.analyse-requires
analyse-requires c = analyse_asks _ _ _ _ c.requires.0 c.requires.1 (search rules)

-- what the analysis found of it
found : (c : After-analyse) → AnalysisOf c.args.turn.prices (read_script c.args.text.now c.args.rows.now c.args.turn.script c.args.ranges) c.args.turn.script.count (analysis_answer c.analyse.result) c.analyse.new.lines
found c = (c.analyse.ensures c.args.turn.script.vars (c.requires.0.legal, c.requires.0.blank)).0

passes : (c : In_ok-figures) → AnalysisOf c.args.turn.prices (read_script c.args.text.now c.args.rows.now c.args.turn.script c.args.ranges) c.args.turn.script.count (analysis_answer (Ok c.in_ok-figures.figures)) c.analyse.new.lines
passes c = (c.in_ok-figures.ensures c.args.turn.script.vars (c.requires.0.legal, c.requires.0.blank)).0

pub returns-in_err-figures : goal.returns-in_err-figures
returns-in_err-figures c prices e =
    let p = goal.at.returns-in_err-figures c in
    let r = c.in_err-figures in
    rw (passed_on c.from_residual.result r.field-0.0 c.from_residual.ensures)
    (no_step_as (judged_out prices (script p.Start) _ _ _ (found_by _ _ _ _ c.requires.0 prices e _ _ (found p.After-analyse)) _ _ _ (ap (λ x. (analysis_answer x).verdict) r.was)))

pub ask_step-requires : goal.ask_step-requires
ask_step-requires c =
    let p = goal.at.ask_step-requires c in
    (script p.Start, step_asked c.requires.0 (full_ranges p.Start) c.requires.1 _ _ (passes p.In_ok-figures) refl c.args.turn.q)

pub returns-in_err-ask_step : goal.returns-in_err-ask_step
returns-in_err-ask_step c prices e =
    let p = goal.at.returns-in_err-ask_step c in
    let r = c.in_err-ask_step in
    let f = c.from_residual-in_err-ask_step in
    let a = c.ask_step.ensures (script p.Start) (step_asked c.requires.0 (full_ranges p.Start) c.requires.1 _ _ (passes p.In_ok-figures) refl c.args.turn.q) in
    rw (passed_on f.result r.field-0.0 f.ensures)
    (no_step_as (asked_out prices (script p.Start) _ _ _ (found_by _ _ _ _ c.requires.0 prices e _ _ (passes p.In_ok-figures)) _ _ _ refl _ e _ a (ap verdict_of r.was)))

pub step_on-requires : goal.step_on-requires
step_on-requires c =
    let p = goal.at.step_on-requires c in
    let f = passes p.In_ok-figures in
    let a = c.ask_step.ensures (script p.Start) (step_asked c.requires.0 (full_ranges p.Start) c.requires.1 _ _ f refl c.args.turn.q) in
    (script p.Start, step_ready c.requires.0 (full_ranges p.Start) c.requires.1 _ _ f refl c.args.turn.q _ _ (sym a ∙ ap verdict_of c.in_ok-ask_step.was))

pub returns : goal.returns
returns c prices e =
    let p = goal.at.returns c in
    let f = passes p.In_ok-figures in
    let y = ap verdict_of c.in_ok-ask_step.was in
    let a = c.ask_step.ensures (script p.Start) (step_asked c.requires.0 (full_ranges p.Start) c.requires.1 _ _ f refl c.args.turn.q) in
    step_as (asked_in prices (script p.Start) _ _ _ (found_by _ _ _ _ c.requires.0 prices e _ _ f) _ _ _ refl _ e _ a y)
    (c.step_on.ensures (script p.Start) (step_ready c.requires.0 (full_ranges p.Start) c.requires.1 _ _ f refl c.args.turn.q _ _ (sym a ∙ y)))
