use mathlib.Core.Path.{◌≡◌, ap, ◌∙◌}
use native.Mathlib.Omega.{arith}
use Rattle.rules.proofs.PassedOn.{passed_on}
use Rattle.reading.specs.Answers.{answer_number}
use Rattle.reading.specs.Words.{line_word}
use Rattle.reading.specs.Meaning.{line_expr}
use Rattle.rules.specs.File.{asks_test, variable_of, comparison_of}
use Rattle.reader.proofs.RowsLaws.{test_yes, test_read, test_wrong, operand_fits, operand_says}
use Rattle.reader.proofs.rows.test_row.Goals as goal
use Rattle.reader.proofs.rows.test_row.Goals.{After-first_refusal}

-- the words' questions
asked : (c : After-first_refusal) → let a = c.args in let w = line_word a.line in
    answer_number c.first_refusal.result ≡ asks_test a.vars w (line_expr a.s.now a.line)
unfolding asks_test
asked c = rw (c.first_refusal.ensures, c.asks_variable.ensures, c.first_refusal-rest.ensures, c.asks_comparison.ensures, c.first_refusal-last.ensures, c.asks_end.ensures, c.word.ensures, c.asks_expression.ensures, c.word-o.ensures, c.word-v.ensures)

pub operand_of-limit-requires : goal.operand_of-limit-requires
operand_of-limit-requires c = (omega arith, operand_fits c.requires.0 3 (omega arith) _ (test_yes _ _ _ _ (asked (goal.at.operand_of-limit-requires c).After-first_refusal) (ap answer_number c.in_ok-first_refusal.was)).1 c.requires.1)

pub variable_of-requires : goal.variable_of-requires
variable_of-requires c = (_, c.requires.0.few, rw c.word-v.ensures (test_yes _ _ _ _ (asked (goal.at.variable_of-requires c).After-first_refusal) (ap answer_number c.in_ok-first_refusal.was)).0)

pub returns : goal.returns
returns c =
    let e = asked (goal.at.returns c).After-first_refusal in
    let z = ap answer_number c.in_ok-first_refusal.was in
    test_read _ _ _ c.args.after _ _ _ _ e _ _ _ _ z c.test-kind.ensures (c.variable_of.ensures ∙ ap variable_of c.word-v.ensures) (c.comparison_of.ensures ∙ ap comparison_of c.word-o.ensures) λ file d.
    operand_says c.requires.0 3 (omega arith) _ (test_yes _ _ _ _ e z).1 file d _ c.operand_of-limit.ensures

pub returns-in_err-first_refusal : goal.returns-in_err-first_refusal
returns-in_err-first_refusal c =
    rw (passed_on c.from_residual.result c.in_err-first_refusal.field-0.0 c.from_residual.ensures)
    (test_wrong _ _ _ c.args.after _ _ _ _ (asked (goal.at.returns-in_err-first_refusal c).After-first_refusal) c.in_err-first_refusal.field-0.0 (ap answer_number c.in_err-first_refusal.was))
