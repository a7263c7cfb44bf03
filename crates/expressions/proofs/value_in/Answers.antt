use Rattle.std.proofs.Common.{ap, ◌∙◌, Some}
use Rattle.rules.specs.Parse.{expr_in, parse}
use Rattle.rules.specs.Scripts.{store_of}
use Rattle.expressions.specs.Operators.{run_numbers, run_result}
use Rattle.expressions.specs.Evaluating.{entry}
use Rattle.expressions.proofs.OperatorsLaws.{run_value}
use Rattle.expressions.proofs.Passing.{passed_value}
use Rattle.expressions.proofs.value_in.Goals as goal

pub returns : goal.returns
returns c =
    let e = passed_value run_numbers (λ w. Some (entry c.args.store.now w)) c.args.text.now c.requires c.expression.result.value c.expression.result.next c.expression.ensures in
    ap run_result e ∙ run_value (expr_in (parse c.args.text.now)) (store_of c.args.store.now)
