use mathlib.Core.Path.{sym, ◌∙◌}
use Rattle.reader.specs.Lines.{keyed}
use Rattle.reader.proofs.lines.keyed.Goals as goal

pub returns-then-has_line : goal.returns-then-has_line
unfolding keyed
returns-then-has_line c = rw (sym c.has_line.ensures ∙ c.if-has_line.true) c.starts_with.ensures

pub returns-else-has_line : goal.returns-else-has_line
unfolding keyed
returns-else-has_line c = rw (sym c.has_line.ensures ∙ c.if-has_line.false) c.if-has_line.false
