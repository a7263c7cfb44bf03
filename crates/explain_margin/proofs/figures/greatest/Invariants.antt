use mathlib.Core.Path.{◌≡◌}
use Prim.Native.Nat.{max}
use lib.ListN.{drop}
use Rattle.explain_margin.specs.Figures.{most_in}
use Rattle.explain_margin.proofs.figures.greatest.Given as goal

-- the greatest so far, and those from row i on
abbrev pub invariant-loop-i : goal.invariant-loop-i
invariant-loop-i l = max l.most (most_in l.column (drop l.i l.figures)) ≡ most_in l.column l.figures
