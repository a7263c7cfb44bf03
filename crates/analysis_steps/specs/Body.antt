-- The body of a loop: its rows, and a for's step row at their end.
use Rattle.std.specs.Prelude.{◌≡◌, List, ℕ, ◌+◌, ◌-◌, ◌<◌}
use Rattle.rules.specs.declared.Row.{Row}
use Rattle.rules.specs.Blocks.{Block}
use Rattle.rules.specs.Steps.{assigns, step}
use Rattle.rules_steps.specs.Ends.{EndsWithin}
use Rattle.table.specs.declared.Shape.{Shape}
use Rattle.table.specs.Code.{kind_at}
use Rattle.table.specs.Shapes.{shape_of}
use Rattle.analysis_steps.specs.declared.Moves.{Moves}
use Rattle.analysis_steps.specs.declared.StepOver.{StepOver}
use Rattle.analysis_steps.specs.declared.variable_set.VariableSet.{VariableSet}
use Rattle.analysis_steps.specs.Sets.{set_of, assigns_from}
use Rattle.analysis_steps.specs.Tree.{Ready, Walked, block_at, with_last_of}

-- the body of the loop at row i
abbrev pub body_at : List ℕ → List Row → ℕ → ℕ → Block
body_at text rows count i = with_last_of text (kind_at rows i) i (block_at text rows count (i + 1))

-- a loop stands at row i
pub record AtLoop (text : List ℕ) (rows : List Row) (count i : ℕ) : Type 0 where
  pub ready : Ready text rows count i
  pub inside : i < count
  pub loops : shape_of (kind_at rows i) ≡ Shape.Loop

-- what the block from row `at` does: the variables that it assigns beside those before, the step of v, the row that closes it
pub record MovesOf (text : List ℕ) (rows : List Row) (count at v : ℕ) (before after : VariableSet) (r : StepOver) : Type 0 where
  pub sets : Walked text rows count at r.next (set_of after) (assigns_from (set_of before))
  pub moves : Walked text rows count at r.next r.step (step v)
  pub near : EndsWithin (r.next - at) r.step

-- what the body of the loop at row i does
pub record BodyMoves (text : List ℕ) (rows : List Row) (count i v : ℕ) (r : Moves) : Type 0 where
  pub sets : (w : ℕ) → set_of r.set w ≡ assigns w (body_at text rows count i)
  pub moves : r.step ≡ step v (body_at text rows count i)
  pub near : EndsWithin 256 r.step
