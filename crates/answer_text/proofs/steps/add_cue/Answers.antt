use native.Mathlib.Omega.{arith}
use Rattle.answer_text.proofs.RunsLaws.{adds_is}
use Rattle.answer_text.proofs.StepTexts.{cue_first, cue_next}
use Rattle.answer_text.proofs.steps.add_cue.Goals as goal

pub returns-then-first : goal.returns-then-first
returns-then-first c = (adds_is (cue_first _ _ c.if-first.true) c.add_number.ensures.0, omega (arith, c.add_number.ensures.1))

pub returns : goal.returns
returns c = (adds_is (cue_next _ _ c.if-first.false) c.add_number-2.ensures.0, omega (arith, c.add_number-2.ensures.1))
