-- The argument and a line feed are added to the input.
use Rattle.season.proofs.keep_argument.Goals as goal

pub returns : goal.returns
returns g c = λ (input, h). (_, c.push_all.ensures _ (c.push_all-next.ensures input h))
