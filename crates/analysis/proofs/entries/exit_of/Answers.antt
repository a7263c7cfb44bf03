use mathlib.Core.Path.{refl}
use Rattle.analysis.proofs.entries.exit_of.Goals as goal

pub returns : goal.returns
returns c = record { tested = refl; mine = c.outer.ensures; sets = refl; ran = refl }
