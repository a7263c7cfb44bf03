-- A loop's passes by its trip are those of the rules.
use mathlib.Core.Path.{◌≡◌, refl, sym, ap, ◌∙◌, fun_ext}
use mathlib.Core.Bool.{Bool, true, false, cond, ◌&&◌}
use Prim.Native.Nat.{ℕ}
use lib.Dec.{T}
use Rattle.ints.proofs.Diffs.{both}
use Rattle.rules.specs.Values.{upward}
use Rattle.rules.specs.Blocks.{Test, Form, Block}
use Rattle.rules.specs.Steps.{is_add, step}
use Rattle.rules.specs.Ranges.{Env}
use Rattle.rules.specs.Trips.{Way, own, broken, copied, chase, watched, is_own, way_of, Trip, trip_by, trip, turns}
use Rattle.rules.specs.Passes.{Pass, any, valued, sum_over, from_constant, is_alone, triangle, with_limit, turns_in}
use Rattle.rules.specs.Figures as figures
use Rattle.rules.proofs.Triangles.{own_trip_lem}
use Rattle.rules.proofs.Walk.{turns_walk, triangle_turns}
use Rattle.analysis_ticks.specs.Rounds.{triangle_by, climb_to, turns_by, walked_by}

module _ (form : Form) (ρ : Env) (test : Test) (body : Block) where
  triangle_is : (v : ℕ) → triangle v form test body ≡ triangle_by form test.limit (trip form ρ test body) v
  unfolding triangle trip_by
  triangle_is v = by (way_of form test body)
    where
      by : (w : Way) → from_constant form && (is_own w && (is_add (step test.tested body) && (upward test.comparison && is_alone v test.limit))) ≡ triangle_by form test.limit (trip_by w form ρ test body) v
      by own = refl
      by (copied w ahead) = refl
      by (chase w) = refl
      by (watched w c k ahead) = refl
      by broken = refl

  turns_is : (j : Pass) → turns_in j form ρ test body ≡ turns_by j form test.limit (trip form ρ test body) (turns form ρ test body)
  unfolding turns_in turns_by triangle
  turns_is any = refl
  turns_is (valued v x) =
      by (triangle v form test body) (λ t. triangle_turns v x form ρ test body t ∙ sym (ap (λ (τ : Trip). climb_to τ x) (own_trip_lem form ρ test body (both (is_own (way_of form test body)) _ (both (from_constant form) _ t).1).0)))
      ∙ ap (λ b. cond b (climb_to (trip form ρ test body) x) (turns form ρ test body)) (triangle_is v)
    where
      by : (b : Bool) → (T b → turns form ρ (with_limit x test) body ≡ climb_to (trip form ρ test body) x)
          → cond b (turns form ρ (with_limit x test) body) (turns form ρ test body) ≡ cond b (climb_to (trip form ρ test body) x) (turns form ρ test body)
      by true f = f tt
      by false f = refl

  -- the turns in all passes of one entry of the loop round it
  pub walk_is : (r : figures.Round) (k : Pass) → turns_walk r k form ρ test body ≡ walked_by r k form test.limit (trip form ρ test body) (turns form ρ test body)
  walk_is r k = ap (sum_over k r.by r.count) (fun_ext turns_is)
