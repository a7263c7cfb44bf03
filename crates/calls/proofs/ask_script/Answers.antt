-- `calls::ask_script` meets its contract. Assumes nothing.
use mathlib.Core.Path.{◌≡◌, refl, sym, ◌∙◌, ap}
use lib.ListN.{length}
use borrow.Author.Rules.{rules}
use Rattle.rules.specs.Scripts.{Script, script_of}
use Rattle.rules.specs.Verdicts.{verdict_of}
use Rattle.rules.proofs.PassedOn.{passed_on}
use Rattle.analysis.specs.Whole.{analysis_answer}
use Rattle.calls.specs.Held.{read_script, admitted, FiguresFound}
use Rattle.calls.proofs.Tables.{four, fine, found_by}
use Rattle.calls.proofs.Judging.{judged_no, judged_yes}
use Rattle.calls.proofs.ask_script.Goals as goal
use Rattle.calls.proofs.ask_script.Goals.{Start, After-figures_of}

-- the script that is read
abbrev script : Start → Script
script s = read_script s.args.text.now s.args.rows.now s.args.script s.args.ranges

pub prices_of-requires : goal.prices_of-requires
prices_of-requires c = four _ c.requires.1

pub figures_of-requires : goal.figures_of-requires
figures_of-requires c = (c.requires.0, fine c.args.prices.now c.requires.1 c.prices_of.ensures)

-- what the analysis found of it
found : (c : After-figures_of) → FiguresFound c.args.prices.now (read_script c.args.text.now c.args.rows.now c.args.script c.args.ranges) c.args.script.count (analysis_answer c.figures_of.result) c.figures_of.ensures.0
found c = found_by _ _ _ _ c.requires.0 c.args.prices.now c.prices_of.ensures (analysis_answer c.figures_of.result) _ c.figures_of.ensures.1

pub ask_store-requires : goal.ask_store-requires
ask_store-requires c = (c.requires.0.few, search rules)

pub returns-in_err-figures_of : goal.returns-in_err-figures_of
returns-in_err-figures_of c =
    let p = goal.at.returns-in_err-figures_of c in
    let e = c.in_err-figures_of in
    rw (passed_on c.from_residual.result e.field-0.0 c.from_residual.ensures)
    (ap (λ j. admitted j c.args.store.now) (sym (judged_no c.args.prices.now (script p.Start) c.args.script.count _ _ (found p.After-figures_of) (ap (λ r. (analysis_answer r).verdict) e.was))))

pub returns : goal.returns
unfolding script_of
returns c =
    let p = goal.at.returns c in
    c.ask_store.ensures ∙ ap (λ j. admitted j c.args.store.now) (sym (judged_yes c.args.prices.now (script p.Start) c.args.script.count _ _ (found p.After-figures_of) (ap (λ r. (analysis_answer r).verdict) c.in_ok-figures_of.was)))
