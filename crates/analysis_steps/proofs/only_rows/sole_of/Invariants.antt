use Prim.Native.Nat.{ℕ, ◌-◌}
use mathlib.Core.List.{List}
use Rattle.table.specs.Code.{rows_of}
use Rattle.analysis_steps.specs.Tree.{Ready}
use Rattle.analysis_steps.specs.Sets.{set_of}
use Rattle.analysis_steps.specs.Soles.{sole_from}
use Rattle.analysis_steps.proofs.Walking.{Walking}
use Rattle.analysis_steps.proofs.only_rows.sole_of.Given as goal

abbrev pub invariant-loop-i : goal.invariant-loop-i
invariant-loop-i l = (text : List ℕ) → Ready text (rows_of l.rows) l.count l.at → Walking text (rows_of l.rows) l.count (sole_from l.v) l.at (set_of l.initial.set) l.i (set_of l.set)

abbrev pub decreases-loop-i : goal.decreases-loop-i
decreases-loop-i l = l.count - l.i
