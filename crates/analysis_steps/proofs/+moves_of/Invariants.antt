use Prim.Native.Nat.{ℕ, ◌-◌}
use mathlib.Core.List.{List}
use Rattle.table.specs.Code.{rows_of}
use Rattle.analysis_steps.specs.Tree.{Ready}
use Rattle.analysis_steps.proofs.Moving.{Moving}
use Rattle.analysis_steps.proofs.+moves_of.Given as goal

-- the rows left
abbrev pub decreases-moves_of : goal.decreases-moves_of
decreases-moves_of l = l.count - l.at

abbrev pub invariant-loop-i : goal.invariant-loop-i
invariant-loop-i l = (text : List ℕ) → Ready text (rows_of l.rows) l.count l.at → Moving text (rows_of l.rows) l.count l.at l.v l.initial.set l.i l.set l.step

abbrev pub decreases-loop-i : goal.decreases-loop-i
decreases-loop-i l = l.count - l.i
