-- `run_loops::is_loop` meets its contract. Assumes nothing.
use mathlib.Core.Bool.{false}
use mathlib.Core.Path.{◌≡◌, refl, sym, ◌∙◌, ap}
use Rattle.table.specs.declared.Shape.{Shape}
use Rattle.run_loops.proofs.Listing.{loop_shape, loop_shape_lem}
use Rattle.run_loops.proofs.is_loop.Goals as goal

other : (s : Shape) → (s ≡ Shape.Loop → ⊥) → false ≡ loop_shape s
other Shape.Plain f = refl
other Shape.Branch f = refl
other Shape.Loop f = absurd (f refl)
other Shape.Close f = refl

pub returns-in-Loop : goal.returns-in-Loop
returns-in-Loop c text = sym (ap loop_shape c.in-Loop.is) ∙ loop_shape_lem text _ c.shape_at.ensures

pub returns-in_default : goal.returns-in_default
returns-in_default c text = other _ c.in_default.not-Loop ∙ loop_shape_lem text _ c.shape_at.ensures
