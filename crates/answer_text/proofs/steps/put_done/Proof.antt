-- `steps::put_done` meets its contract. Assumes nothing.
use borrow.Author.Rules.{rules}
use native.Mathlib.Omega.{arith}
use Prim.Native.Nat.{◌≤◌}
use mathlib.Core.Bool.{true}
use mathlib.Core.List.{append_assoc}
use Rattle.rules.specs.Report.{newline}
use Rattle.answer_text.specs.Texts.{listed}
use Rattle.answer_text.specs.Steps.{cue_text, step_front}
use Rattle.answer_text.proofs.RunsLaws.{adds_is, adds_join, adds_whole}
use Rattle.answer_text.proofs.steps.put_done.Statement.{statement}
use Rattle.answer_text.proofs.steps.put_done.Tie as tie

returns : tie.Need-returns
returns c =
    let text = adds_is (append_assoc (step_front c.args.frame c.args.d) (listed cue_text true c.args.cues.now) newline) (adds_join _ _ _ _ _ _ _ _ (adds_join _ _ _ _ _ _ _ _ c.add_step_front-a.ensures.0 c.add_cues-b.ensures.0) c.end_line.ensures) in
    let short : c.end_line.result ≤ 21_700 = omega (arith, c.add_step_front-a.ensures.1, c.add_cues-b.ensures.1, c.end_line.ensures.count) in
    (adds_whole _ _ _ _ (omega (arith, text.count, c.requires.1, short)) text, short)

pub put_done_spec : {M : Type 1} → statement M
put_done_spec = tie.close (tie.spec
    (λ c κs. omega (arith, c.requires.1))
    (λ c κs. (c.requires.0, omega (arith, c.requires.1, c.add_step_front-a.ensures.0.long, c.add_step_front-a.ensures.1)))
    (λ c κs. omega (arith, c.requires.1, c.add_step_front-a.ensures.0.long, c.add_step_front-a.ensures.1, c.add_cues-b.ensures.0.long, c.add_cues-b.ensures.1))
    (λ c. search rules)
    returns)
