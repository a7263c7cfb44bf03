use mathlib.Core.Path.{◌≡◌, ap}
use Rattle.rules.proofs.PassedOn.{passed_on}
use Rattle.reading.specs.Answers.{answer_number}
use Rattle.reading.specs.Words.{line_word}
use Rattle.rules.specs.File.{asks_end, bare_row}
use Rattle.reader.proofs.RowsLaws.{line_read, line_wrong, bare_says}
use Rattle.reader.proofs.rows.bare_row.Goals as goal
use Rattle.reader.proofs.rows.bare_row.Goals.{After-asks_end}

-- the word's question
asked : (c : After-asks_end) → answer_number c.asks_end.result ≡ asks_end (line_word c.args.line 1)
asked c = rw (c.asks_end.ensures, c.word.ensures)

pub returns : goal.returns
unfolding bare_row
returns c =
    let e = asked (goal.at.returns c).After-asks_end in
    λ vars s base. line_read s base _ _ _ _ e _ (ap answer_number c.in_ok-asks_end.was) λ file d. bare_says _ c.requires file

pub returns-in_err-asks_end : goal.returns-in_err-asks_end
unfolding bare_row
returns-in_err-asks_end c =
    λ vars s base. rw (passed_on c.from_residual.result c.in_err-asks_end.field-0.0 c.from_residual.ensures)
    (line_wrong _ _ _ _ _ _ (asked (goal.at.returns-in_err-asks_end c).After-asks_end) c.in_err-asks_end.field-0.0 (ap answer_number c.in_err-asks_end.was))
