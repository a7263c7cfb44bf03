use native.Mathlib.Omega.{arith}
use Rattle.answer_text.proofs.RunsLaws.{adds_is, adds_join}
use Rattle.answer_text.proofs.StepTexts.{step_front_lem}
use Rattle.answer_text.proofs.steps.add_step_front.Goals as goal

pub returns : goal.returns
returns c =
    let a = c.add_number-a.ensures in
    let b = c.add_status-b.ensures in
    let d = c.add_number-c.ensures in
    let e = c.add_number-e.ensures in
    let f = c.add_number-f.ensures in (
      adds_is (step_front_lem _ _) (adds_join _ _ _ _ _ _ _ _ (adds_join _ _ _ _ _ _ _ _ (adds_join _ _ _ _ _ _ _ _ (adds_join _ _ _ _ _ _ _ _ (adds_join _ _ _ _ _ _ _ _ a.0 b.0) d.0) e.0) f.0) c.add_text.ensures),
      omega (arith, a.1, b.1, d.1, e.1, f.1, c.add_text.ensures.count),
    )
