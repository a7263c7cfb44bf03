-- What is handed to the writer is the report or the refusal.
use Rattle.answer_text.proofs.ReportsLaws.{printed_front}
use Rattle.program_parts.proofs.script.print_report.Goals as goal

pub write_report-requires : goal.write_report-requires
write_report-requires g c = printed_front _ _ _ _ c.put_report-n.ensures
