use mathlib.Core.Path.{◌≡◌}
use Prim.Native.Nat.{◌+◌}
use lib.ListN.{drop}
use Rattle.line_causes.specs.Causes.{agree}
use Rattle.line_causes.proofs.agree.Given as goal

-- the bytes passed are the same
abbrev pub invariant-loop-i : goal.invariant-loop-i
invariant-loop-i l = agree l.key l.s ≡ l.i + agree (drop l.i l.key) (drop l.i l.s)
