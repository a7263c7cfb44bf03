use mathlib.Core.Path.{◌≡◌, ap}
use native.Mathlib.Omega.{arith}
use Rattle.rules.proofs.PassedOn.{passed_on}
use Rattle.reading.specs.Answers.{answer_number}
use Rattle.reading.specs.Words.{line_word}
use Rattle.reading.specs.Meaning.{line_expr}
use Rattle.rules.specs.Blocks.{kind_of}
use Rattle.rules.specs.File.{first_refusal, asks_end, asks_variable, asks_expr, set_row}
use Rattle.reader.proofs.RowsLaws.{two_yes, line_read, line_wrong, operand_fits, operand_says}
use Rattle.reader.proofs.rows.set_row.Goals as goal
use Rattle.reader.proofs.rows.set_row.Goals.{After-first_refusal}

-- the words' questions
asked : (c : After-first_refusal) → let a = c.args in let w = line_word a.line in
    answer_number c.first_refusal.result ≡ first_refusal (asks_variable a.vars (w 1)) (first_refusal (asks_expr a.vars (line_expr a.s.now a.line 2)) (asks_end (w 3)))
asked c = rw (c.first_refusal.ensures, c.asks_variable.ensures, c.first_refusal-last.ensures, c.asks_end.ensures, c.word.ensures, c.asks_expression.ensures, c.word-v.ensures)

pub variable_of-requires : goal.variable_of-requires
variable_of-requires c = (_, c.requires.0.few, rw c.word-v.ensures (two_yes _ _ _ _ (asked (goal.at.variable_of-requires c).After-first_refusal) (ap answer_number c.in_ok-first_refusal.was)).0)

pub operand_of-requires : goal.operand_of-requires
operand_of-requires c = (omega arith, operand_fits c.requires.0 2 (omega arith) _ (two_yes _ _ _ _ (asked (goal.at.operand_of-requires c).After-first_refusal) (ap answer_number c.in_ok-first_refusal.was)).1 c.requires.1)

pub returns : goal.returns
unfolding set_row kind_of
returns c =
    let e = asked (goal.at.returns c).After-first_refusal in
    let z = ap answer_number c.in_ok-first_refusal.was in
    line_read _ _ _ _ _ _ e _ z λ file d.
    let (g, i) = operand_says c.requires.0 2 (omega arith) _ (two_yes _ _ _ _ e z).1 file d _ c.operand_of.ensures in
    (rw (c.variable_of.ensures, c.word-v.ensures, g), i)

pub returns-in_err-first_refusal : goal.returns-in_err-first_refusal
unfolding set_row
returns-in_err-first_refusal c =
    rw (passed_on c.from_residual.result c.in_err-first_refusal.field-0.0 c.from_residual.ensures)
    (line_wrong _ _ _ _ _ _ (asked (goal.at.returns-in_err-first_refusal c).After-first_refusal) c.in_err-first_refusal.field-0.0 (ap answer_number c.in_err-first_refusal.was))
