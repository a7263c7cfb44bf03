-- The array of ranges and the function that it stands for.
use mathlib.Core.Path.{◌≡◌, refl, sym}
use mathlib.Core.Bool.{Bool, true, false, cond}
use mathlib.Core.List.{List, [], ◌∷◌}
use Prim.Native.Nat.{ℕ, ◌+◌, ◌≤◌, ◌<◌}
use native.Mathlib.Omega.{arith}
use borrow.Author.Tests.{eqb-true, eqb-false, ltb-true, ltb-false, lt-ltb, le-ltb}
use lib.Dec.{eqb, ltb}
use lib.IntN.{ℤ, pos}
use lib.ListN.{length, set, get_or-eq_default}
use lib.Seq.{get_or-set_same, get_or-set_other}
use Rattle.rules.specs.Values.{put}
use Rattle.ints.specs.Ints.{min_z, max_z}
use Rattle.rules.specs.Ranges.{Range, Env, bounds, join, after_row, source_range}
use Rattle.rules.specs.declared.Change.{Change}
use Rattle.rules.specs.declared.Operand.{Operand}
use Rattle.rules.specs.Blocks.{view_of, expr_of, kind_of}
use Rattle.table.specs.declared.Shape.{Shape}
use Rattle.table.specs.declared.Tag.{Tag}
use Rattle.table.specs.Code.{kind_by, variable_in, start_in, step_in}
use Rattle.table.specs.Shapes.{shape_of, plain_of}
use Rattle.analysis_intervals.specs.Env.{env_of}
use Rattle.analysis_ranges.specs.Env.{env_up_to}
use Rattle.analysis_intervals.specs.Changes.{join_range, with_zero, changed_range}

abbrev two : ℤ → ℤ → List ℤ
two lo hi = lo ∷ (hi ∷ [])

-- one range stored
module _ (r : List (List ℤ)) (v : ℕ) (lo hi : ℤ) (h : v < length r) where
  set_at : (w : ℕ) (t : Bool) → eqb w v ≡ t → env_of (set r v (two lo hi)) w ≡ cond t (record { lo = lo; hi = hi }) (env_of r w)
  unfolding env_of
  set_at w true e = rw (eqb-true w v e, get_or-set_same r v (two lo hi) [] h)
  set_at w false e = rw (get_or-set_other r v w (two lo hi) [] (eqb-false w v e))

  pub env_set : env_of (set r v (two lo hi)) ≡ put (env_of r) v (record { lo = lo; hi = hi })
  env_set = λ d w. set_at w (eqb w v) refl d

-- past the last variable
pub env_far : (r : List (List ℤ)) (w : ℕ) → length r ≤ w → env_of r w ≡ record { lo = pos 0; hi = pos 0 }
unfolding env_of
env_far r w h = rw (get_or-eq_default r [] {n = w} h)

module _ (σ ρ : Env) where
  pub up_none : env_up_to 0 σ ρ ≡ ρ
  unfolding env_up_to
  up_none = λ d w. go w (ltb w 0) refl d
    where
      go : (w : ℕ) (t : Bool) → ltb w 0 ≡ t → cond t (σ w) (ρ w) ≡ ρ w
      go w true e = absurd (let z : w < 0 = ltb-true w 0 e in omega arith)
      go w false e = refl

  -- the next is still the old one
  pub up_here : (i : ℕ) → env_up_to i σ ρ i ≡ ρ i
  unfolding env_up_to
  up_here i = rw (le-ltb i i (omega arith))

  next_at : (i w : ℕ) (t u : Bool) → eqb w i ≡ t → ltb w i ≡ u → cond t (σ i) (cond u (σ w) (ρ w)) ≡ env_up_to (i + 1) σ ρ w
  unfolding env_up_to
  next_at i w true u e f = let q : w ≡ i = eqb-true w i e in rw (q, lt-ltb i (i + 1) (omega arith))
  next_at i w false true e f = let q : w < i = ltb-true w i f in rw (lt-ltb w (i + 1) (omega arith))
  next_at i w false false e f = let q : i ≤ w = ltb-false w i f in let n = eqb-false w i e in rw (le-ltb w (i + 1) (omega arith))

  pub up_next : (i : ℕ) → put (env_up_to i σ ρ) i (σ i) ≡ env_up_to (i + 1) σ ρ
  unfolding env_up_to
  up_next i = λ d w. next_at i w (eqb w i) (ltb w i) refl refl d

  pub up_all : (n : ℕ) → ((w : ℕ) → n ≤ w → σ w ≡ ρ w) → env_up_to n σ ρ ≡ σ
  unfolding env_up_to
  up_all n far = λ d w. go w (ltb w n) refl d
    where
      go : (w : ℕ) (t : Bool) → ltb w n ≡ t → cond t (σ w) (ρ w) ≡ σ w
      go w true e = refl
      go w false e = sym (far w (ltb-false w n e))

  -- one variable more, as the code stores it
  pub up_put : (i : ℕ) (e : Env) (x : Range) → e ≡ env_up_to i σ ρ → x ≡ σ i → put e i x ≡ env_up_to (i + 1) σ ρ
  up_put i e x p q = rw (p, q) (up_next i)

module _ (a b : List (List ℤ)) where
  pub join_at : (i : ℕ) (x y z : Range) → z ≡ join_range x y → x ≡ env_of a i → y ≡ env_of b i → z ≡ join (env_of a) (env_of b) i
  unfolding join
  join_at i x y z p q r = rw (p, q, r)

  pub join_far : length a ≡ 16 → length b ≡ 16 → (w : ℕ) → 16 ≤ w → join (env_of a) (env_of b) w ≡ env_of a w
  unfolding join min_z max_z
  join_far p q w h = rw (env_far a w (omega arith), env_far b w (omega arith))

-- a plain row by its tag: a set, a change, an off, any other
module _ (text : List ℕ) (ρ : Env) (e : List ℕ) where
  pub after_set : {v : ℕ} {x : Operand} {s : Range} → v ≡ variable_in e → x ≡ start_in e → s ≡ bounds ρ (expr_of text x) → put ρ v s ≡ after_row ρ (plain_of text (kind_by Tag.Set e))
  unfolding after_row source_range kind_by view_of kind_of
  after_set p q r = rw (r, p, q)

  pub after_move : {v : ℕ} {c : Change} {s x : Range} → v ≡ variable_in e → c ≡ step_in e → s ≡ ρ v → x ≡ changed_range c s → put ρ v x ≡ after_row ρ (plain_of text (kind_by Tag.Move e))
  unfolding after_row source_range changed_range kind_by view_of kind_of
  after_move p q r u = rw (u, r, p, q)

  pub after_off : {v : ℕ} {s x : Range} → v ≡ variable_in e → s ≡ ρ v → x ≡ with_zero s → put ρ v x ≡ after_row ρ (plain_of text (kind_by Tag.Off e))
  unfolding after_row source_range kind_by view_of kind_of
  after_off p r u = rw (u, r, p)

  pub after_other : (g : Tag) → (g ≡ Tag.Set → ⊥) → (g ≡ Tag.Move → ⊥) → (g ≡ Tag.Off → ⊥) → shape_of (kind_by g e) ≡ Shape.Plain → ρ ≡ after_row ρ (plain_of text (kind_by g e))
  unfolding after_row kind_by view_of kind_of
  after_other Tag.End p q r h = refl
  after_other Tag.Else p q r h = refl
  after_other Tag.Pick p q r h = refl
  after_other Tag.Set p q r h = absurd (p refl)
  after_other Tag.Move p q r h = absurd (q refl)
  after_other Tag.Cue p q r h = refl
  after_other Tag.While p q r h = refl
  after_other Tag.Do p q r h = refl
  after_other Tag.For p q r h = absurd (let z : ◌≡◌ {A = ℕ} 0 1 = cc in omega arith)
  after_other Tag.Off p q r h = absurd (r refl)
  after_other Tag.Hold p q r h = refl
