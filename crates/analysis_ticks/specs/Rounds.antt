-- The passes of a block as code holds them; the loops that sum and the triangles, from a loop's trip τ and its turns n.
use Rattle.std.specs.Prelude.{◌≡◌, Option, Some, None, Bool, true, not, cond, ◌&&◌, ℕ, ◌*◌, ◌≤◌, ◌<◌, leb, ℤ, pos}
use Rattle.rules_steps.specs.Ends.{Near, EndsWithin}
use Rattle.rules.specs.Expressions.{Expr}
use Rattle.rules.specs.Values.{upward}
use Rattle.rules.specs.Blocks.{Form}
use Rattle.rules.specs.Steps.{is_add, first_end}
use Rattle.rules.specs.Ranges.{edge, sort, ordered, suits}
use Rattle.rules.specs.Turns.{climb}
use Rattle.rules.specs.Trips.{Trip, is_exact}
use Rattle.rules.specs.Passes.{Pass, any, valued, sum_over, from_constant, is_alone}
use Rattle.rules.specs.Figures as figures
use Rattle.analysis_loops.specs.declared.trips.Trip as code
use Rattle.analysis_loops.specs.Found.{free_of}
use Rattle.analysis_ticks.specs.Capped.{capped}
use Rattle.analysis_ticks.specs.declared.passes.Round.{Round}

-- the round of the rules
abbrev pub round_of : Round → figures.Round
round_of r = record { count = r.count; by = r.by; times = r.times }

-- what is known in the first pass, where v holds x, if that is known; kept: the variable is not assigned so far
abbrev pub pass_by : ℕ → Option ℤ → Bool → Pass
pass_by v (Some x) kept = cond kept (valued v x) any
pass_by v None kept = any

abbrev pub pass_in : Round → Bool → Pass
pass_in r kept = pass_by r.v r.x kept

-- how large its numbers are
pub record FineRound (r : Round) : Type 0 where
  pub few : r.count ≤ 4_096
  pub near : Near 512 r.by
  pub small : r.times ≤ 1_000_000_000_001
  pub var : r.v < 16

-- a base kind
abbrev pub is_base : Trip → Bool
is_base τ = not τ.free && τ.terms

-- the loop sums
abbrev pub sums_by : Trip → ℕ → Bool
sums_by τ n = is_base τ && (is_exact τ && (is_add τ.step && (ordered (sort τ.comparison) && leb n 4_096)))

-- it is a triangle over v
abbrev pub triangle_by : Form → Expr → Trip → ℕ → Bool
triangle_by form limit τ v = from_constant form && (is_base τ && (is_add τ.step && (upward τ.comparison && is_alone v limit)))

-- its turns up to x
abbrev pub climb_to : Trip → ℤ → ℕ
climb_to τ x = climb (record { start = τ.start.lo; limit = edge τ.comparison (record { lo = x; hi = x }); step = first_end τ.step })

-- its turns in a pass of the loop round it
unfoldable pub turns_by : Pass → Form → Expr → Trip → ℕ → ℕ
turns_by any form limit τ n = n
turns_by (valued v x) form limit τ n = cond (triangle_by form limit τ v) (climb_to τ x) n

-- and in all passes of one entry of the loop round it
abbrev pub walked_by : figures.Round → Pass → Form → Expr → Trip → ℕ → ℕ
walked_by r k form limit τ n = sum_over k r.by r.count (λ j. turns_by j form limit τ n)

-- what a triangle's trip has
pub record Rises (t : code.Trip) : Type 0 where
  pub own : not (free_of t.counter) ≡ true
  pub add : is_add t.step ≡ true
  pub up : upward t.comparison ≡ true
  pub suits : suits t.step (sort t.comparison) ≡ true
  pub near : EndsWithin 512 t.step

-- the passes of a pick's branch
abbrev pub branch_of : Round → Round
branch_of r = record { count = 1; by = pos 0; times = capped (r.count * r.times); v = r.v; x = None }

-- the passes of a loop's body, v its tested variable, total its turns in all
abbrev pub body_of : Trip → ℕ → ℕ → ℕ → Round → Round
body_of τ v n total r =
    cond (sums_by τ n)
    (record { count = n; by = first_end τ.step; times = capped (r.count * r.times); v = v; x = Some τ.start.lo })
    (record { count = 1; by = pos 0; times = total; v = v; x = None })
