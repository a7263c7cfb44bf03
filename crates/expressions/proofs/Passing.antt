-- A text that the questions have passed is read whole, and none of its numbers is cut off.
use mathlib.Core.Path.{◌≡◌, refl, sym, ◌∙◌, ap}
use mathlib.Core.Bool.{Bool, true, false, cond}
use mathlib.Core.List.{List, [], ◌∷◌}
use Prim.Native.Nat.{ℕ, zero, suc, ◌≤◌, min}
use native.Mathlib.Omega.{arith}
use lib.Dec.{T, leb, ltb}
use lib.IntN.{ℤ, pos, negsuc, neg_ℤ}
use lib.ListN.{drop}
use borrow.Author.Tests.{ltb-true}
use Rattle.rules.proofs.Expressions.{limits}
use Rattle.rules.specs.Expressions.{Expr, constant, variable, group, apply, Numbers, meaning}
use Rattle.rules.specs.Values.{lowest, highest, in_limits}
use Rattle.rules.specs.Parse.{Parsed, parsed, shapeless, then_parse, at_end, parse, expr_in, read_expression}
use Rattle.rules.specs.File.{turn_of, first_refusal, asks_size, asks_leaves, asks_expr}
use Rattle.expressions.specs.Leaves.{ceiling, cut_z, cut_expr}
use Rattle.expressions.specs.Evaluating.{Gives}
use Rattle.rules.specs.Written.{PassedWord}

refusal_none : (p q : ℕ) → first_refusal p q ≡ 0 → (p ≡ 0) × (q ≡ 0)
unfolding first_refusal
refusal_none zero q e = (refl, e)
refusal_none (suc p) zero e = absurd (omega arith)
refusal_none (suc p) (suc q) e = by (leb (turn_of (suc p)) (turn_of (suc q))) e
  where
    by : (t : Bool) → cond t (suc p) (suc q) ≡ 0 → (suc p ≡ 0) × (suc q ≡ 0)
    by true k = absurd (omega arith)
    by false k = absurd (omega arith)

cut_constant : (z : ℤ) → T (in_limits z) → cut_z z ≡ z
unfolding cut_z ceiling lowest highest
cut_constant (pos n) h = let (a, b) = limits (pos n) h in ap pos (omega arith)
cut_constant (negsuc n) h = let (a, b) = limits (negsuc n) h in ap (λ m. neg_ℤ (pos m)) (let e : min (suc n) 2_000_000_001 ≡ suc n = omega arith in e)

cut_same : (vars : ℕ) → vars ≤ 16 → (x : Expr) → asks_leaves vars x ≡ 0 → cut_expr x ≡ x
unfolding cut_expr asks_leaves ceiling
cut_same vars f (constant z) e = ap constant (cut_constant z (by (in_limits z) e))
  where
    by : (t : Bool) → ◌≡◌ {A = ℕ} (cond t 0 4) 0 → T t
    by true k = tt
    by false k = absurd (omega arith)
cut_same vars f (variable v) e = ap variable (by (ltb v vars) refl e)
  where
    by : (t : Bool) → ltb v vars ≡ t → ◌≡◌ {A = ℕ} (cond t 0 5) 0 → min v 2_000_000_001 ≡ v
    by true l k = omega (arith, ltb-true v vars l, f)
    by false l k = absurd (omega arith)
cut_same vars f (group x) e = ap group (cut_same vars f x e)
cut_same vars f (apply o x y) e =
    let (a, b) = refusal_none (asks_leaves vars x) (asks_leaves vars y) e in
    λ t. apply o (cut_same vars f x a t) (cut_same vars f y b t)

record Whole (p : Parsed) : Type 0 where
  tree : Expr
  rest : List ℕ
  same : p ≡ parsed tree rest
  kept : cut_expr tree ≡ tree

whole : (p : Parsed) (vars : ℕ) → vars ≤ 16 → asks_expr vars p ≡ 0 → Whole p
whole (parsed x s) vars f e = record { tree = x; rest = s; same = refl; kept = cut_same vars f x (refusal_none (asks_size x) (asks_leaves vars x) e).1 }
whole shapeless vars f e = absurd (omega arith)

whole_read : (p : Parsed) (x : Expr) (s : List ℕ) → then_parse p at_end ≡ parsed x s → p ≡ parsed x []
unfolding then_parse at_end
whole_read (parsed y []) x s e = let k : y ≡ x = cc in ap (λ z. parsed z []) k
whole_read (parsed y (b ∷ r)) x s e = absurd (let z : ◌≡◌ {A = ℕ} 0 1 = cc in omega arith)
whole_read shapeless x s e = absurd (let z : ◌≡◌ {A = ℕ} 0 1 = cc in omega arith)

pub passed_value : {A : Type 0} (n : Numbers A) (f : ℕ → A) (text : List ℕ) → PassedWord text → (v : A) (k : ℕ) → Gives n f text (read_expression (λ x. x) (drop 0 text)) 0 v k → v ≡ meaning n f (expr_in (parse text))
unfolding parse
passed_value n f text p v k h =
    let w = whole (parse text) p.vars p.few p.asks in
    let (u, _) = h.same w.tree [] (whole_read (read_expression (λ x. x) text) w.tree w.rest w.same) in
    u ∙ ap (meaning n f) w.kept ∙ ap (λ q. meaning n f (expr_in q)) (sym w.same)
