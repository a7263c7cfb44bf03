-- What is handed to the writer is the cue's line.
use Rattle.answer_text.proofs.RunsLaws.{wrote_front}
use Rattle.program_parts.proofs.cues.print_cue.Goals as goal

pub write_cue-requires : goal.write_cue-requires
write_cue-requires g c = wrote_front _ _ _ _ c.put_cue-k.ensures.0
