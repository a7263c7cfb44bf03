-- `calls::run_script` meets its contract. Assumes nothing.
use mathlib.Core.Path.{◌≡◌, refl, ap}
use mathlib.Core.List.{List}
use lib.IntN.{ℤ}
use lib.ListN.{length}
use native.Mathlib.Omega.{arith}
use borrow.Author.Rules.{rules}
use Rattle.std.specs.Prelude.{Result, Ok, Err}
use Rattle.rules.specs.declared.Refusal.{Refusal}
use Rattle.rules.specs.Verdicts.{passed, verdict_of}
use Rattle.rules.specs.Scripts.{Script, script_of}
use Rattle.rules.specs.Calls.{run_reply}
use Rattle.rules.specs.Claim.{Demand3Of}
use Rattle.rules.proofs.Demand3File.{demand3_script}
use Rattle.rules.proofs.PassedOn.{passed_on}
use Rattle.analysis.specs.Whole.{analysis_answer}
use Rattle.calls.specs.declared.Outcome.{Outcome}
use Rattle.calls.specs.Held.{read_script, judged_script, FiguresFound}
use Rattle.calls.specs.Told.{ending_in, ticks_in, counts_in, RanAs}
use Rattle.calls.proofs.Tables.{four, fine, found_by, may_run}
use Rattle.calls.proofs.Judging.{ticks_few}
use Rattle.calls.proofs.Runs.{told_says, ran_no, ran_out, runs_from, ran_all}
use Rattle.calls.proofs.run_script.Goals as goal
use Rattle.calls.proofs.run_script.Goals.{Start, After-figures_of, After-ask_store}

-- the script that is held
abbrev script : Start → Script
script s = read_script s.args.text.now s.args.rows.now s.args.script s.args.ranges

pub prices_of-by_kind-requires : goal.prices_of-by_kind-requires
prices_of-by_kind-requires c = four _ c.requires.1

pub figures_of-requires : goal.figures_of-requires
figures_of-requires c = (c.requires.0, fine c.args.prices.now c.requires.1 c.prices_of-by_kind.ensures)

-- what the analysis found of it
found : (c : After-figures_of) → FiguresFound c.args.prices.now (read_script c.args.text.now c.args.rows.now c.args.script c.args.ranges) c.args.script.count (analysis_answer c.figures_of.result) c.figures_of.ensures.0
found c = found_by _ _ _ _ c.requires.0 c.args.prices.now c.prices_of-by_kind.ensures (analysis_answer c.figures_of.result) _ c.figures_of.ensures.1

-- demand 3 of an answer
kept : (s : Start) (o : Result Outcome Refusal) (new : List ℤ)
    → RanAs (run_reply s.args.prices.now (judged_script s.args.prices.now (script s)) s.args.store.now s.args.picks.now s.args.allowance) s.args.store.now new o
    → Demand3Of s.args.prices.now (judged_script s.args.prices.now (script s)) s.args.store.now s.args.picks.now s.args.allowance (ending_in o) (ticks_in o) (counts_in o)
kept s o new r =
    demand3_script s.args.prices.now s.args.store.now s.args.picks.now s.args.allowance (ending_in o) (ticks_in o) (counts_in o) s.requires.1 (script s) s.requires.0.legal
    (told_says o (run_reply s.args.prices.now (judged_script s.args.prices.now (script s)) s.args.store.now s.args.picks.now s.args.allowance) r.told)

pub returns-in_err-figures : goal.returns-in_err-figures
returns-in_err-figures c =
    let p = goal.at.returns-in_err-figures c in
    let e = c.in_err-figures in
    let r = ran_no c.args.prices.now (script p.Start) c.args.script.count _ _ (found p.After-figures_of) c.args.store.now c.args.picks.now c.args.allowance (ap (λ r. (analysis_answer r).verdict) e.was) in
    rw (passed_on c.from_residual.result e.field-0.0 c.from_residual.ensures) (record { run = r; demand3 = kept p.Start _ _ r })

pub ask_store-requires : goal.ask_store-requires
ask_store-requires c = (c.requires.0.few, search rules)

-- the figures, of a script that has passed
passes : (c : After-ask_store) → FiguresFound c.args.prices.now (read_script c.args.text.now c.args.rows.now c.args.script c.args.ranges) c.args.script.count (analysis_answer (Ok c.in_ok-figures.figures)) c.figures_of.ensures.0
passes c = found_by _ _ _ _ c.requires.0 c.args.prices.now c.prices_of-by_kind.ensures (analysis_answer (Ok c.in_ok-figures.figures)) _ (rw c.in_ok-figures.was at c.figures_of.ensures.1)

pub returns-in_err-ask_store : goal.returns-in_err-ask_store
unfolding script_of
returns-in_err-ask_store c =
    let p = goal.at.returns-in_err-ask_store c in
    let e = c.in_err-ask_store in
    let f = c.from_residual-in_err-ask_store in
    let r = ran_out c.args.prices.now (script p.Start) c.args.script.count _ _ (passes p.After-ask_store) c.args.store.now c.args.picks.now c.args.allowance refl _ c.ask_store.ensures _ _ (ap verdict_of e.was) in
    rw (passed_on f.result e.field-0.0 f.ensures) (record { run = r; demand3 = kept p.Start _ _ r })

pub run_accepted-requires : goal.run_accepted-requires
unfolding script_of
run_accepted-requires c =
    let p = goal.at.run_accepted-requires c in
    let q = passes p.After-ask_store in
    let few = ticks_few c.args.prices.now (script p.Start) c.args.script.count _ _ q refl in
    may_run _ _ _ _ c.requires.0
    (fine c.args.prices.now c.requires.1 c.prices_of-by_kind.ensures).test.some
    (runs_from c.args.prices.now (script p.Start) c.args.script.count _ _ q c.args.store.now c.args.picks.now c.args.allowance refl _ c.ask_store.ensures (ap verdict_of c.in_ok-ask_store.was) c.requires.0.legal)
    (omega (arith, c.min.ensures, few))

pub returns : goal.returns
unfolding script_of
returns c =
    let p = goal.at.returns c in
    let r = ran_all c.args.prices.now c.requires.1 _ c.prices_of-by_kind.ensures (script p.Start) c.args.script.count _ _ (passes p.After-ask_store) c.args.store.now c.args.picks.now c.args.allowance refl _ c.ask_store.ensures (ap verdict_of c.in_ok-ask_store.was) c.requires.0.legal _ c.min.ensures _ _ c.run_accepted.ensures in
    record { run = r; demand3 = kept p.Start _ _ r }
