-- `runs::put_answer` meets its contract.
use borrow.Author.Rules.{rules}
use Rattle.answer_text.proofs.RunsLaws.{wrote_is}
use Rattle.answer_text.proofs.Answers.{told_text, told_loops}
use Rattle.answer_text.proofs.runs.put_answer.Goals as goal

pub put_outcome-requires : goal.put_outcome-requires
put_outcome-requires c = (told_loops _ _ _ _ _ _ _ c.run-answer.ensures.answer.answer.told, search rules, search rules)

pub returns : goal.returns
returns c = (wrote_is (told_text _ _ _ _ c.run-answer.ensures.answer.answer) c.put_outcome.ensures.0, c.put_outcome.ensures.1)
