use mathlib.Core.Path.{◌≡◌}
use Prim.Native.Nat.{◌+◌, ◌≤◌}
use lib.ListN.{drop}
use Rattle.line_causes.specs.Breaks.{broken_at, broken_from}
use Rattle.line_causes.proofs.breaks.broken_at.Given as goal

-- it goes on as far as this
abbrev pub invariant-loop-at : goal.invariant-loop-at
invariant-loop-at l = (l.turn.depth ≤ l.at) × (broken_at l.t ≡ l.at + broken_from l.turn.mode l.turn.depth (drop l.at l.t))
