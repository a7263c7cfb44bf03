use mathlib.Core.Path.{◌≡◌}
use lib.ListN.{length}
use Rattle.explain_margin.specs.Figures.{put_ticks}
use Rattle.explain_margin.proofs.figures.put_ticks.Given as goal

-- the rows before row i have their ticks
abbrev pub invariant-loop-i : goal.invariant-loop-i
invariant-loop-i l = (length l.figures ≡ 256) × (l.figures ≡ put_ticks l.own l.i l.initial.figures)
