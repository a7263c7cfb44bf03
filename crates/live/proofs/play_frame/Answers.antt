-- The step's line is handed to the writer; no step does more cues than it has room for.
use Rattle.answer_text.proofs.RunsLaws.{wrote_front}
use Rattle.answer_text.proofs.StepTexts.{few_cues}
use Rattle.std.proofs.Common.{rules}
use Rattle.live.proofs.play_frame.Goals as goal

pub put_step-n-requires : goal.put_step-n-requires
put_step-n-requires g c = let k = few_cues _ _ _ _ _ _ _ _ c.step-answer.ensures.answer (search rules) in (search rules, search rules, search rules)

pub write_step-requires : goal.write_step-requires
write_step-requires g c = wrote_front _ _ _ _ c.put_step-n.ensures.0
