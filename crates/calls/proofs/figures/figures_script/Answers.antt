-- `calls::figures::figures_script` meets its contract. Assumes nothing.
use mathlib.Core.Path.{◌≡◌, refl, sym, ◌∙◌, ap}
use native.Mathlib.Omega.{arith}
use lib.ListN.{length, length-take}
use borrow.Author.Rules.{rules}
use Rattle.std.specs.Prelude.{Ok}
use Rattle.rules.specs.Scripts.{Script, script_of, pair_ranges}
use Rattle.rules.proofs.Laws.{pairs_length}
use Rattle.rules.proofs.PassedOn.{passed_on}
use Rattle.analysis.specs.Whole.{analysis_answer}
use Rattle.calls.specs.Held.{read_script, FiguresFound}
use Rattle.calls.proofs.Tables.{four, fine, analyse_asks, found_by}
use Rattle.calls.proofs.Laws.{figures_yes, figures_no}
use Rattle.calls.proofs.figures.figures_script.Goals as goal
use Rattle.calls.proofs.figures.figures_script.Goals.{Start, After-analyse}

-- the script that is read
abbrev script : Start → Script
script s = read_script s.args.text.now s.args.rows.now s.args.script s.args.ranges

pub prices_of-requires : goal.prices_of-requires
prices_of-requires c = four _ c.requires.1

pub analyse-requires : goal.analyse-requires
analyse-requires c = analyse_asks _ _ _ _ c.requires.0 (fine c.args.prices.now c.requires.1 c.prices_of.ensures) c.requires.2

-- what the analysis found of it
found : (c : After-analyse) → FiguresFound c.args.prices.now (read_script c.args.text.now c.args.rows.now c.args.script c.args.ranges) c.args.script.count (analysis_answer c.analyse.result) c.analyse.new.lines
found c = found_by _ _ _ _ c.requires.0 c.args.prices.now c.prices_of.ensures (analysis_answer c.analyse.result) _ (c.analyse.ensures c.args.script.vars (c.requires.0.legal, c.requires.0.blank)).0

pub tell_lines-requires : goal.tell_lines-requires
tell_lines-requires c =
    let k = (c.in_ok-found.ensures c.args.script.vars (c.requires.0.legal, c.requires.0.blank)).0 in
    (k.loops refl, k.long refl)

pub returns-in_err-found : goal.returns-in_err-found
returns-in_err-found c =
    let p = goal.at.returns-in_err-found c in
    let e = c.in_err-found in
    rw (passed_on c.from_residual.result e.field-0.0 c.from_residual.ensures)
    (figures_no c.args.prices.now (script p.Start) c.args.script.count _ _ (found p.After-analyse) (ap (λ r. (analysis_answer r).verdict) e.was) _)

pub returns : goal.returns
unfolding script_of
returns c =
    let p = goal.at.returns c in
    figures_yes c.args.prices.now (script p.Start) c.args.script.count (analysis_answer (Ok c.in_ok-found.found)) _ (rw c.in_ok-found.was at (found p.After-analyse)) refl c.args.script.vars
    (let k : length c.args.ranges ≡ 16 = search rules in omega (arith, length-take c.args.script.vars (pair_ranges c.args.ranges), pairs_length c.args.ranges, c.requires.0.few)) _ c.tell_lines.ensures
