-- `calls::measure_script` meets its contract. Assumes nothing.
use mathlib.Core.Path.{◌≡◌, refl, ap}
use borrow.Author.Rules.{rules}
use Rattle.std.specs.Prelude.{Ok}
use Rattle.rules.specs.Scripts.{Script}
use Rattle.analysis.specs.Whole.{analysis_answer}
use Rattle.calls.specs.Held.{read_script, FiguresFound}
use Rattle.calls.proofs.Tables.{four, fine, analyse_asks, found_by}
use Rattle.calls.proofs.Judging.{reported, not_reported}
use Rattle.calls.proofs.measure_script.Goals as goal
use Rattle.calls.proofs.measure_script.Goals.{Start, After-analyse}

-- the script that is read
abbrev script : Start → Script
script s = read_script s.args.text.now s.args.rows.now s.args.script s.args.ranges

pub prices_of-by_kind-requires : goal.prices_of-by_kind-requires
prices_of-by_kind-requires c = four _ c.requires.1

pub analyse-requires : goal.analyse-requires
analyse-requires c = analyse_asks _ _ _ _ c.requires.0 (fine c.args.prices.now c.requires.1 c.prices_of-by_kind.ensures) (search rules)

-- what the analysis found of it
found : (c : After-analyse) → FiguresFound c.args.prices.now (read_script c.args.text.now c.args.rows.now c.args.script c.args.ranges) c.args.script.count (analysis_answer c.analyse.result) c.analyse.new.lines
found c = found_by _ _ _ _ c.requires.0 c.args.prices.now c.prices_of-by_kind.ensures (analysis_answer c.analyse.result) _ (c.analyse.ensures c.args.script.vars (c.requires.0.legal, c.requires.0.blank)).0

pub write_report-requires : goal.write_report-requires
write_report-requires c =
    let k = (c.in-Ok.ensures c.args.script.vars (c.requires.0.legal, c.requires.0.blank)).0 in
    record { few = k.loops refl; long = k.long refl }

pub returns-in-Ok : goal.returns-in-Ok
returns-in-Ok c =
    let p = goal.at.returns-in-Ok c in
    reported c.args.prices.now (script p.Start) c.args.script.count (analysis_answer (Ok c.in-Ok.figures)) _ (rw c.in-Ok.is at (found p.After-analyse)) refl _ _ _ c.write_report.ensures

pub returns-in-Err : goal.returns-in-Err
returns-in-Err c =
    let p = goal.at.returns-in-Err c in
    not_reported c.args.prices.now (script p.Start) c.args.script.count _ _ (found p.After-analyse) (ap (λ r. (analysis_answer r).verdict) c.in-Err.is) _
