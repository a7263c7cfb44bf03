-- The ranges at a body's start and after a loop.
use mathlib.Core.Path.{◌≡◌, refl, ap, ◌∙◌}
use mathlib.Core.Bool.{Bool, true, false, cond}
use mathlib.Core.List.{List}
use Prim.Native.Nat.{ℕ}
use lib.Dec.{eqb}
use Rattle.rules.specs.declared.Row.{Row}
use Rattle.rules.specs.Blocks.{Test, Form, Block}
use Rattle.rules.specs.Steps.{assigns}
use Rattle.rules.specs.Ranges.{Range, Env, full}
use Rattle.rules.specs.Trips.{inner_of, outer_of, loop_env, trip, inside, outside}
use Rattle.table.specs.Code.{kind_at}
use Rattle.analysis_steps.specs.Tree.{form_of, test_of}
use Rattle.analysis_steps.specs.Sets.{set_of}
use Rattle.analysis_steps.specs.Body.{body_at}
use Rattle.analysis_loops.specs.declared.Loop.{Loop}
use Rattle.analysis_loops.specs.Found.{trip_of}
use Rattle.analysis_loops.specs.Loops.{LoopAt}
use Rattle.analysis_ranges.specs.Env.{widened_env}
use Rattle.analysis_ranges.specs.Loops.{widened}

-- the tested variable and the set are the loop's
wide_is : (one : Loop) (mine : Range) (test : Test) (ρ : Env) (body : Block) → one.tested ≡ test.tested → ((w : ℕ) → set_of one.set w ≡ assigns w body)
    → widened one mine ρ ≡ loop_env mine ρ test body
unfolding widened_env loop_env
wide_is one mine test ρ body q h = λ d w. cond (eqb w (q d)) mine (cond (h w d) full (ρ w))

-- the ranges at the body's start of the loop at row i
module _ {text : List ℕ} {rows : List Row} {count i : ℕ} {ρ : Env} {one : Loop} (l : LoopAt text rows count i ρ one) where
  pub inside_is : widened one (inner_of (trip_of one.trip)) ρ ≡ inside (form_of text (kind_at rows i)) ρ (test_of text (kind_at rows i)) (body_at text rows count i)
  inside_is = ap (λ τ. widened one (inner_of τ) ρ) l.trip ∙ wide_is one _ (test_of text (kind_at rows i)) ρ (body_at text rows count i) l.tested l.sets

-- the ranges after a loop, from those at its body's start
again : (a b : Bool) (x y : Range) (z : Range) → cond a x (cond b full (cond a y (cond b full z))) ≡ cond a x (cond b full z)
again true b x y z = refl
again false true x y z = refl
again false false x y z = refl

pub outside_after : {set : ℕ → Bool} {mine : Range} {v : ℕ} (form : Form) (ρ : Env) (test : Test) (body : Block) → ((w : ℕ) → set w ≡ assigns w body) → mine ≡ outer_of (trip form ρ test body) → v ≡ test.tested
    → widened_env set mine v (inside form ρ test body) ≡ outside form ρ test body
unfolding widened_env loop_env
outside_after form ρ test body h m q =
    (λ d w. cond (eqb w (q d)) (m d) (cond (h w d) full (inside form ρ test body w)))
    ∙ (λ d w. again (eqb w test.tested) (assigns w body) (outer_of (trip form ρ test body)) (inner_of (trip form ρ test body)) (ρ w) d)
