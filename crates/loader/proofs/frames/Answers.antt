-- `loader::frames` meets its contract. Assumes nothing.
use mathlib.Core.Path.{refl, sym, ◌∙◌, ap}
use lib.ListN.{length}
use borrow.Author.Tests.{not-true, not-false}
use Rattle.rules.specs.Verdicts.{verdict_of}
use Rattle.rules.proofs.PassedOn.{passed_on}
use Rattle.loader.proofs.Laws.{lent_priced}
use Rattle.loader.proofs.Framing.{framed_20, fits, framed_lent, framed_yes, framed_call}
use Rattle.loader.proofs.frames.Goals as goal

pub run_frames-requires : goal.run_frames-requires
run_frames-requires c =
    let a = c.args in
    (lent_priced a.prices.now (length a.scratch.now) (sym c.ask_lent.ensures ∙ ap verdict_of c.in_ok-ask_lent.was), fits a.prices.now (length a.scratch.now) _ _ (sym c.fitting-fits.ensures ∙ not-false _ c.if-not-fits.false-raw))

pub returns-then-not-fits : goal.returns-then-not-fits
returns-then-not-fits c = record { answer = rw c.from.ensures (framed_call _ _ _ _ _ _ (framed_20 _ _ _ _ (sym c.fitting-fits.ensures ∙ not-true _ c.if-not-fits.true-raw))); scratch = refl }

pub returns-in_err-ask_lent : goal.returns-in_err-ask_lent
returns-in_err-ask_lent c =
    let e = c.in_err-ask_lent in
    rw (passed_on c.from_residual.result (record { refusal = e.field-0.0; script = 0 }) c.from_residual.ensures)
    (record { answer = framed_call _ _ _ _ _ _ (framed_lent _ _ _ _ (sym c.fitting-fits.ensures ∙ not-false _ c.if-not-fits.false-raw) _ _ (sym c.ask_lent.ensures ∙ ap verdict_of e.was)); scratch = refl })

pub returns : goal.returns
returns c =
    record {
      answer = framed_call _ _ _ _ _ _ (framed_yes _ _ _ _ (sym c.fitting-fits.ensures ∙ not-false _ c.if-not-fits.false-raw) (sym c.ask_lent.ensures ∙ ap verdict_of c.in_ok-ask_lent.was) _ _ c.run_frames.ensures);
      scratch = refl;
    }
