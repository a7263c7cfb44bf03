use mathlib.Core.Path.{◌≡◌, sym, ap, ◌∙◌}
use Rattle.rules.proofs.PassedOn.{passed_on}
use Rattle.reading.specs.Answers.{answer_number}
use Rattle.reading.specs.Words.{line_word}
use Rattle.rules.specs.Blocks.{kind_of}
use Rattle.rules.specs.File.{first_refusal, asks_end, asks_number, cue_row}
use Rattle.reader.proofs.RowsLaws.{line_read, line_wrong}
use lib.IntN.{pos}
use Rattle.ints.proofs.Parts.{ints}
use Rattle.rules.specs.Values.{highest}
use Rattle.rules.proofs.ReadLegal.{refusal_yes}
use Rattle.reading.proofs.WordsLaws.{number_wider}
use Rattle.reader.proofs.rows.cue_row.Goals as goal
use Rattle.reader.proofs.rows.cue_row.Goals.{After-first_refusal}

-- the words' questions
asked : (c : After-first_refusal) → let a = c.args in let w = line_word a.line in
    answer_number c.first_refusal.result ≡ first_refusal (asks_number (pos 0) (pos 9_999) (w 1)) (asks_end (w 2))
asked c = rw (c.first_refusal.ensures, c.asks_end.ensures, c.word.ensures, c.asks_number.ensures, c.word-n.ensures)

pub amount-requires : goal.amount-requires
unfolding highest
amount-requires c = number_wider (pos 0) (pos 9_999) (pos 0) highest c.word-n.result (omega ints) (omega ints) (rw c.word-n.ensures (refusal_yes _ _ (sym (asked (goal.at.amount-requires c).After-first_refusal) ∙ ap answer_number c.in_ok-first_refusal.was)).0)

pub returns : goal.returns
unfolding cue_row kind_of
returns c =
    let e = asked (goal.at.returns c).After-first_refusal in
    λ vars s base. line_read s base _ _ _ _ e _ (ap answer_number c.in_ok-first_refusal.was) λ file d. (rw (c.amount.ensures, c.word-n.ensures), tt)

pub returns-in_err-first_refusal : goal.returns-in_err-first_refusal
unfolding cue_row
returns-in_err-first_refusal c =
    λ vars s base. rw (passed_on c.from_residual.result c.in_err-first_refusal.field-0.0 c.from_residual.ensures)
    (line_wrong _ _ _ _ _ _ (asked (goal.at.returns-in_err-first_refusal c).After-first_refusal) c.in_err-first_refusal.field-0.0 (ap answer_number c.in_err-first_refusal.was))
