use Rattle.rules.specs.Evaluate.{evaluated}
use Rattle.expressions.specs.Operators.{ranges}
use Rattle.expressions.specs.Evaluating.{values_of}
use Rattle.expressions.proofs.Passing.{passed_value}
use Rattle.expressions.proofs.evaluate.Goals as goal

pub returns : goal.returns
unfolding evaluated
returns c = passed_value ranges (values_of c.args.los.now c.args.his.now) c.args.text.now c.requires c.expression.result.value c.expression.result.next c.expression.ensures
