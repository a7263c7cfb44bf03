-- The ranges over a loop, from what the code finds one by one.
use mathlib.Core.Path.{◌≡◌, refl}
use mathlib.Core.Bool.{Bool, false, cond}
use mathlib.Core.List.{List}
use Prim.Native.Nat.{ℕ, ◌≤◌, ◌<◌}
use native.Mathlib.Omega.{arith}
use borrow.Author.Tests.{ne_eqb}
use lib.Dec.{eqb}
use lib.ListN.{length, get_or-eq_default}
use Rattle.rules.specs.declared.Change.{Change}
use Rattle.rules.specs.declared.Comparison.{Comparison}
use Rattle.rules.specs.declared.Operand.{Operand}
use Rattle.analysis_steps.specs.declared.variable_set.VariableSet.{VariableSet}
use Rattle.rules.specs.declared.Kind.{Kind}
use Rattle.rules.specs.declared.Kind.TheVariants.{Set, Move, Cue, Pick, Else, End, While, Do, For, Off, Hold}
use Rattle.rules.specs.Blocks.{view_of, kind_of}
use Rattle.rules.specs.Ranges.{Range, Env, full, at_start}
use Rattle.analysis_steps.specs.Tree.{head_of, form_of, test_of}
use Rattle.analysis_steps.specs.Sets.{set_of}
use Rattle.analysis_ranges.specs.Env.{widened_env}

-- one variable, as the code finds it
pub wide_at : (set : ℕ → Bool) (mine : Range) (v : ℕ) (ρ : Env) (w : ℕ) (x y : Range) (p : Bool) → x ≡ cond (eqb w v) mine (cond p full y) → y ≡ ρ w → p ≡ set w
    → x ≡ widened_env set mine v ρ w
unfolding widened_env
wide_at set mine v ρ w x y p a b c = rw (a, b, c)

-- past the last variable
pub wide_far : (s : VariableSet) → length s.has ≡ 16 → (mine : Range) (v : ℕ) → v < 16 → (ρ : Env) (w : ℕ) → 16 ≤ w → widened_env (set_of s) mine v ρ w ≡ ρ w
unfolding widened_env set_of
wide_far s e mine v u ρ w h = rw (ne_eqb w v (omega arith), get_or-eq_default s.has false {n = w} (omega arith))

-- any row but a for
pub no_start : (text : List ℕ) (ρ : Env) (k : Kind) → ((v : ℕ) (s : Operand) (c : Comparison) (x : Operand) (d : Change) → k ≡ For v s c x d → ⊥) → ρ ≡ at_start (form_of text k) (test_of text k) ρ
unfolding at_start head_of view_of kind_of
no_start text ρ End n = refl
no_start text ρ Else n = refl
no_start text ρ Pick n = refl
no_start text ρ (Set v x) n = refl
no_start text ρ (Move v c) n = refl
no_start text ρ (Cue k) n = refl
no_start text ρ (While v c x) n = refl
no_start text ρ (Do v c x) n = refl
no_start text ρ (For v s c x d) n = absurd (n v s c x d refl)
no_start text ρ (Off v w c k) n = refl
no_start text ρ (Hold v) n = refl
