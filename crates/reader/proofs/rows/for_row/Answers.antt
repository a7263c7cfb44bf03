use mathlib.Core.Path.{◌≡◌, ap}
use native.Mathlib.Omega.{arith}
use Rattle.rules.proofs.PassedOn.{passed_on}
use Rattle.reading.specs.Answers.{answer_number}
use Rattle.reading.specs.Words.{line_word}
use Rattle.reading.specs.Meaning.{line_expr}
use Rattle.rules.specs.Blocks.{kind_of}
use Rattle.rules.specs.File.{asks_for, for_row}
use Rattle.reader.proofs.RowsLaws.{for_yes, line_read, line_wrong, operand_fits, operand_says}
use Rattle.reader.proofs.rows.for_row.Goals as goal
use Rattle.reader.proofs.rows.for_row.Goals.{After-first_refusal}

-- the words' questions
asked : (c : After-first_refusal) → let a = c.args in let w = line_word a.line in
    answer_number c.first_refusal.result ≡ asks_for a.vars w (line_expr a.s.now a.line)
unfolding asks_for
asked c = rw (c.first_refusal.ensures, c.asks_variable.ensures, c.first_refusal-rest.ensures, c.asks_expression-2.ensures, c.first_refusal-test.ensures, c.asks_comparison.ensures, c.first_refusal-limit.ensures, c.asks_expression.ensures, c.first_refusal-last.ensures, c.asks_end.ensures, c.word.ensures, c.asks_step.ensures, c.word-z.ensures, c.word-n.ensures, c.word-o.ensures, c.word-v.ensures)

pub operand_of-start-requires : goal.operand_of-start-requires
operand_of-start-requires c = (omega arith, operand_fits c.requires.0 2 (omega arith) _ (for_yes _ _ _ _ (asked (goal.at.operand_of-start-requires c).After-first_refusal) (ap answer_number c.in_ok-first_refusal.was)).1 c.requires.1)

pub operand_of-limit-requires : goal.operand_of-limit-requires
operand_of-limit-requires c = (omega arith, operand_fits c.requires.0 4 (omega arith) _ (for_yes _ _ _ _ (asked (goal.at.operand_of-limit-requires c).After-first_refusal) (ap answer_number c.in_ok-first_refusal.was)).2 c.requires.1)

pub step_of-step-requires : goal.step_of-step-requires
step_of-step-requires c = rw (c.word-n.ensures, c.word-z.ensures) (for_yes _ _ _ _ (asked (goal.at.step_of-step-requires c).After-first_refusal) (ap answer_number c.in_ok-first_refusal.was)).3

pub variable_of-requires : goal.variable_of-requires
variable_of-requires c = (_, c.requires.0.few, rw c.word-v.ensures (for_yes _ _ _ _ (asked (goal.at.variable_of-requires c).After-first_refusal) (ap answer_number c.in_ok-first_refusal.was)).0)

pub returns : goal.returns
unfolding for_row kind_of
returns c =
    let m = c.requires.0 in
    let e = asked (goal.at.returns c).After-first_refusal in
    let z = ap answer_number c.in_ok-first_refusal.was in
    let (_, x, y, _, _) = for_yes _ _ _ _ e z in
    line_read _ _ _ _ _ _ e _ z λ file d.
    let (g, i) = operand_says m 2 (omega arith) _ x file d _ c.operand_of-start.ensures in
    let (h, j) = operand_says m 4 (omega arith) _ y file d _ c.operand_of-limit.ensures in
    (rw (c.comparison_of.ensures, c.variable_of.ensures, c.step_of-step.ensures, c.word-z.ensures, c.word-n.ensures, c.word-o.ensures, c.word-v.ensures, g, h), (i, j))

pub returns-in_err-first_refusal : goal.returns-in_err-first_refusal
unfolding for_row
returns-in_err-first_refusal c =
    rw (passed_on c.from_residual.result c.in_err-first_refusal.field-0.0 c.from_residual.ensures)
    (line_wrong _ _ _ _ _ _ (asked (goal.at.returns-in_err-first_refusal c).After-first_refusal) c.in_err-first_refusal.field-0.0 (ap answer_number c.in_err-first_refusal.was))
