use native.Mathlib.Omega.{arith}
use Rattle.analysis.proofs.entries.to_note.Goals as goal

pub returns-then-places-eq0 : goal.returns-then-places-eq0
returns-then-places-eq0 c = λ h. absurd (omega (arith, h, c.if-places-eq0.true))

pub returns-else-places-eq0 : goal.returns-else-places-eq0
returns-else-places-eq0 c = λ h. c.not_known.ensures
