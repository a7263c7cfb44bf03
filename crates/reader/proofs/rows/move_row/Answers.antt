use mathlib.Core.Path.{◌≡◌, ap}
use Rattle.rules.proofs.PassedOn.{passed_on}
use Rattle.reading.specs.Answers.{answer_number}
use Rattle.reading.specs.Words.{line_word}
use Rattle.rules.specs.Blocks.{kind_of}
use Rattle.rules.specs.File.{first_refusal, asks_end, asks_variable, asks_change, move_row}
use Rattle.reader.proofs.RowsLaws.{two_yes, line_read, line_wrong}
use Rattle.reader.proofs.rows.move_row.Goals as goal
use Rattle.reader.proofs.rows.move_row.Goals.{After-first_refusal}

-- the words' questions
asked : (c : After-first_refusal) → let a = c.args in let w = line_word a.line in
    answer_number c.first_refusal.result ≡ first_refusal (asks_variable a.vars (w 1)) (first_refusal (asks_change a.name (w 2)) (asks_end (w 3)))
asked c = rw (c.first_refusal.ensures, c.asks_variable.ensures, c.first_refusal-last.ensures, c.asks_end.ensures, c.word.ensures, c.asks_change.ensures, c.word-x.ensures, c.word-v.ensures)

pub variable_of-requires : goal.variable_of-requires
variable_of-requires c = (_, c.requires, rw c.word-v.ensures (two_yes _ _ _ _ (asked (goal.at.variable_of-requires c).After-first_refusal) (ap answer_number c.in_ok-first_refusal.was)).0)

pub change_of-requires : goal.change_of-requires
change_of-requires c = rw c.word-x.ensures (two_yes _ _ _ _ (asked (goal.at.change_of-requires c).After-first_refusal) (ap answer_number c.in_ok-first_refusal.was)).1

pub returns : goal.returns
unfolding move_row kind_of
returns c =
    let e = asked (goal.at.returns c).After-first_refusal in
    λ s base. line_read s base _ _ _ _ e _ (ap answer_number c.in_ok-first_refusal.was) λ file d.
    (rw (c.change_of.ensures, c.variable_of.ensures, c.word-x.ensures, c.word-v.ensures), tt)

pub returns-in_err-first_refusal : goal.returns-in_err-first_refusal
unfolding move_row
returns-in_err-first_refusal c =
    λ s base. rw (passed_on c.from_residual.result c.in_err-first_refusal.field-0.0 c.from_residual.ensures)
    (line_wrong _ _ _ _ _ _ (asked (goal.at.returns-in_err-first_refusal c).After-first_refusal) c.in_err-first_refusal.field-0.0 (ap answer_number c.in_err-first_refusal.was))
