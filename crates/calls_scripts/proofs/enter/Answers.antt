-- `calls_scripts::enter` meets its contract. Assumes nothing.
use mathlib.Core.Path.{◌≡◌, refl, sym, ◌∙◌, ap}
use Prim.Native.Nat.{ℕ}
use native.Mathlib.Omega.{arith}
use Rattle.std.specs.Prelude.{Ok}
use Rattle.rules.specs.Calls.{prices_of}
use Rattle.rules.specs.Verdicts.{passed, verdict_of}
use Rattle.rules.proofs.Demand3File.{judged_accepted}
use Rattle.rules.proofs.PassedOn.{passed_on}
use Rattle.reader.specs.Read.{load_answer}
use Rattle.calls.specs.Held.{admitted}
use Rattle.calls.proofs.Loaded.{file_refused, file_read, file_given}
use Rattle.calls_scripts.proofs.Readiness.{held_as}
use Rattle.calls_scripts.proofs.enter.Goals as goal

pub ask_script-requires : goal.ask_script-requires
ask_script-requires c = (file_given c.args.prices.now c.args.file.now (load_answer (Ok c.in_ok-script.script)) _ _ c.in_ok-script.ensures refl, c.requires.0)

pub returns-in_err-script : goal.returns-in_err-script
returns-in_err-script c =
    let e = c.in_err-script in
    let r = file_refused c.args.prices.now c.args.file.now _ _ _ e.ensures refl in
    rw (passed_on c.from_residual.result e.field-0.0 c.from_residual.ensures)
    (record {
      verdict = ap (λ j. admitted j c.args.store.now) (sym r);
      rows = λ script e. absurd (let y : ◌≡◌ {A = ℕ} 0 1 = cc (sym r ∙ e) in omega arith);
      held = λ z. absurd (let y : ◌≡◌ {A = ℕ} 0 1 = cc in omega arith);
    })

pub returns-in_err-ask_script : goal.returns-in_err-ask_script
returns-in_err-ask_script c =
    let prices = c.args.prices.now in
    let file = c.args.file.now in
    let l = load_answer (Ok c.in_ok-script.script) in
    let e = c.in_err-ask_script in
    let f = c.from_residual-in_err-ask_script in
    let g = file_given prices file l _ _ c.in_ok-script.ensures refl in
    let r = file_read prices file l _ _ c.in_ok-script.ensures refl in
    rw (passed_on f.result e.field-0.0 f.ensures)
    (record {
      verdict = sym (ap verdict_of e.was) ∙ c.ask_script.ensures ∙ ap (λ j. admitted j c.args.store.now) (sym r);
      rows = λ script a. (l.count, held_as file _ _ _ g script (judged_accepted (prices_of prices) _ script _ g.legal refl (sym r ∙ a)).0);
      held = λ z. absurd (let y : ◌≡◌ {A = ℕ} 0 1 = cc in omega arith);
    })

pub returns : goal.returns
returns c =
    let prices = c.args.prices.now in
    let file = c.args.file.now in
    let l = load_answer (Ok c.in_ok-script.script) in
    let g = file_given prices file l _ _ c.in_ok-script.ensures refl in
    let r = file_read prices file l _ _ c.in_ok-script.ensures refl in
    record {
      verdict = sym (ap verdict_of c.in_ok-ask_script.was) ∙ c.ask_script.ensures ∙ ap (λ j. admitted j c.args.store.now) (sym r);
      rows = λ script a. (l.count, held_as file _ _ _ g script (judged_accepted (prices_of prices) _ script _ g.legal refl (sym r ∙ a)).0);
      held = λ z script e. held_as file _ _ _ g script (judged_accepted (prices_of prices) _ script _ g.legal refl (sym r ∙ e)).0;
    }
