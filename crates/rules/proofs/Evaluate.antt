-- One evaluator serves ranges and runs.
use mathlib.Core.Path.{◌≡◌, refl, sym, ◌∙◌, ap, subst}
use mathlib.Core.Bool.{Bool, true, false, not, cond, ◌&&◌, ◌||◌}
use native.Mathlib.Omega.{arith}
use lib.Dec.{T}
use lib.IntN.{ℤ}
use Rattle.ints.specs.Ints.{min_z, max_z, clamp}
use Rattle.ints.proofs.Parts.{clamp_parts, min_parts, max_parts, eq_out}
use Rattle.rules.specs.declared.Value.{Value}
use Rattle.rules.specs.declared.Operator.{Operator}
use Rattle.rules.specs.Expressions.{Expr, constant, variable, group, apply, operate, meaning}
use Rattle.rules.specs.Values.{lowest, highest, in_limits, Store, choose, Result, number, past, limited, operated, value}
use Rattle.rules.specs.Ranges.{Env, spread, bounds}
use Rattle.rules.specs.Evaluate.{not_past, range_in, least, largest, clamped, combined, evaluated, of_ranges, of_store, result_of}
use Rattle.rules.proofs.Expressions.{limits}

-- ---- the ends are the range's
pub evaluated_range : (ρ : Env) (e : Expr) → range_in (evaluated (of_ranges ρ) e) ≡ bounds ρ e
unfolding evaluated combined clamped least largest bounds spread meaning
evaluated_range ρ (constant k) = refl
evaluated_range ρ (variable w) = refl
evaluated_range ρ (group e) = evaluated_range ρ e
evaluated_range ρ (apply o d e) = λ t. spread o (evaluated_range ρ d t) (evaluated_range ρ e t)

-- ---- the number is the run's
-- a value from a run's number
abbrev Stands : Value → Result → Type 0
Stands v (number z) = v ≡ not_past z z
Stands v past = v.past ≡ true

or_true : (a : Bool) {b : Bool} → b ≡ true → a || b ≡ true
or_true true e = refl
or_true false e = e

min_same : (z : ℤ) → min_z z z ≡ z
min_same z = eq_out (min_z z z) z (omega (arith, min_parts z z))

max_same : (z : ℤ) → max_z z z ≡ z
max_same z = eq_out (max_z z z) z (omega (arith, max_parts z z))

clamp_same : (z : ℤ) → T (in_limits z) → clamp lowest highest z ≡ z
clamp_same z h = let (a, b) = limits z h in eq_out (clamp lowest highest z) z (omega (arith, clamp_parts lowest highest z))

one_combined : (o : Operator) (x y : ℤ) → Stands (combined o (not_past x x) (not_past y y)) (limited (operate o x y))
unfolding combined clamped least largest limited choose
one_combined o x y = by (in_limits (operate o x y)) (λ t. t) refl
  where
    z : ℤ
    z = operate o x y

    lo : least o (range_in (not_past x x)) (range_in (not_past y y)) ≡ z
    lo = (λ t. min_z (min_same z t) (min_same z t)) ∙ min_same z

    hi : largest o (range_in (not_past x x)) (range_in (not_past y y)) ≡ z
    hi = (λ t. max_z (max_same z t) (max_same z t)) ∙ max_same z

    by : (b : Bool) → (T b → T (in_limits z)) → in_limits z ≡ b → Stands (combined o (not_past x x) (not_past y y)) (choose b (number z) past)
    by true f e = let d = clamp_same z (f tt) in λ t. record {
      lo = (ap (clamp lowest highest) lo ∙ d) t;
      hi = (ap (clamp lowest highest) hi ∙ d) t;
      past = not ((ap in_limits lo ∙ e) t && (ap in_limits hi ∙ e) t);
    }
    by false f e = λ t. not ((ap in_limits lo ∙ e) t && (ap in_limits hi ∙ e) t)

operated_stands : (o : Operator) (a b : Value) (p q : Result) → Stands a p → Stands b q → Stands (combined o a b) (operated o p q)
unfolding operated combined clamped
operated_stands o a b (number x) (number y) h k = subst (λ v. Stands v (limited (operate o x y))) (λ t. combined o (sym h t) (sym k t)) (one_combined o x y)
operated_stands o a b (number x) past h k = λ t. or_true a.past k t || (clamped (least o (range_in a) (range_in b)) (largest o (range_in a) (range_in b))).past
operated_stands o a b past q h k = λ t. h t || b.past || (clamped (least o (range_in a) (range_in b)) (largest o (range_in a) (range_in b))).past

value_stands : (f : Store) (e : Expr) → Stands (evaluated (of_store f) e) (value e f)
unfolding evaluated value meaning
value_stands f (constant k) = refl
value_stands f (variable w) = refl
value_stands f (group e) = value_stands f e
value_stands f (apply o d e) = operated_stands o _ _ (value d f) (value e f) (value_stands f d) (value_stands f e)

pub evaluated_value : (f : Store) (e : Expr) → result_of (evaluated (of_store f) e) ≡ value e f
evaluated_value f e = by (value e f) (value_stands f e)
  where
    by : (r : Result) → Stands (evaluated (of_store f) e) r → result_of (evaluated (of_store f) e) ≡ r
    by (number z) h = ap result_of h
    by past h = λ t. cond (h t) past (number (evaluated (of_store f) e).lo)
