use mathlib.Core.List.{[]}
use lib.ListN.{get_or-map}
use Rattle.analysis_lines.specs.Coded.{line_in}
use Rattle.analysis_lines.proofs.line_at.Goals as goal

pub returns : goal.returns
unfolding line_in
returns c = rw (get_or-map line_in _ _ [], c.step_in.ensures)
