-- `loader::start` meets its contract. Assumes nothing.
use mathlib.Core.Path.{◌≡◌, sym, ◌∙◌, ap}
use native.Mathlib.Omega.{arith}
use lib.ListN.{length, length-take}
use Rattle.rules.specs.Verdicts.{passed, verdict_of}
use Rattle.rules.proofs.PassedOn.{passed_on}
use Rattle.loader.specs.Kept.{lent_verdict}
use Rattle.loader.proofs.Laws.{lent_no, lent_yes, lent_room, lent_priced, scratch_kept, scratch_same, started_no, started_same}
use Rattle.loader.proofs.start.Goals as goal
use Rattle.loader.proofs.start.Goals.{In_ok-ask_lent}

-- the questions 1 and 16 have yes
passes : (c : In_ok-ask_lent) → lent_verdict c.args.prices.now (length c.args.scratch.now) ≡ passed
passes c = sym c.ask_lent.ensures ∙ ap verdict_of c.in_ok-ask_lent.was

pub slice_bounds-start_file-end : goal.slice_bounds-start_file-end
slice_bounds-start_file-end c = omega (arith, lent_room c.args.prices.now (length c.args.scratch.now) (passes (goal.at.slice_bounds-start_file-end c).In_ok-ask_lent))

pub slice_bounds-start_file-end-2 : goal.slice_bounds-start_file-end-2
slice_bounds-start_file-end-2 c = simp length-take (omega (arith, lent_room c.args.prices.now (length c.args.scratch.now) (passes (goal.at.slice_bounds-start_file-end-2 c).In_ok-ask_lent)))

pub start_file-requires : goal.start_file-requires
start_file-requires c =
    let e = passes (goal.at.start_file-requires c).In_ok-ask_lent in
    (lent_priced c.args.prices.now (length c.args.scratch.now) e, simp length-take (omega (arith, lent_room c.args.prices.now (length c.args.scratch.now) e)))

pub returns-in_err-ask_lent : goal.returns-in_err-ask_lent
returns-in_err-ask_lent c =
    let e = c.in_err-ask_lent in
    rw (passed_on c.from_residual.result e.field-0.0 c.from_residual.ensures)
    (record { answer = started_no c.args.prices.now _ _ (lent_no _ _ c.args.file.now (sym c.ask_lent.ensures ∙ ap verdict_of e.was)); scratch = scratch_same })

pub returns : goal.returns
returns c =
    let f = c.start_file in
    let e = passes (goal.at.returns c).In_ok-ask_lent in
    let long : length f.new.table ≡ 1_024 = f.auto.table ∙ simp length-take (omega (arith, lent_room c.args.prices.now (length c.args.scratch.now) e)) in
    record { answer = started_same _ _ _ (lent_yes _ _ e c.args.file.now) f.ensures; scratch = scratch_kept c.args.prices.now f.new.table c.args.scratch.now long e }
