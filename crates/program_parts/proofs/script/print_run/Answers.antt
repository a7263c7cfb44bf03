-- What is handed to the writer is what the call answers.
use Rattle.answer_text.proofs.RunsLaws.{wrote_front}
use Rattle.program_parts.proofs.script.print_run.Goals as goal

pub write_run-requires : goal.write_run-requires
write_run-requires g c = wrote_front _ _ _ _ c.put_answer-n.ensures.0
