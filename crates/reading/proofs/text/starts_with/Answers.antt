use Rattle.std.proofs.Common.{◌∙◌}
use Rattle.reading.proofs.TextLaws.{starts_same}
use Rattle.reading.proofs.text.starts_with.Goals as goal

pub returns : goal.returns
returns c = c.starts_with.ensures.value ∙ starts_same c.args.key.now c.args.s.now
