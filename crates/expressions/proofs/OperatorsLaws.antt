-- A run's numbers: a result within the limits fits, and they come to what the rules' results come to.
use mathlib.Core.Path.{◌≡◌, refl, sym, subst, ◌∙◌}
use mathlib.Core.Bool.{Bool, true, false, cond}
use lib.Dec.{T}
use lib.IntN.{ℤ}
use mir.Syntax.{w32}
use mir.Val.{SFits}
use Rattle.std.specs.Prelude.{Option, None, Some}
use Rattle.rules.specs.declared.Operator.{Operator}
use Rattle.rules.specs.Expressions.{Expr, constant, variable, group, apply, operate, meaning}
use Rattle.rules.specs.Values.{lowest, highest, in_limits, choose, number, past, limited, operated, value, Store}
use Rattle.ints.proofs.Parts.{ints}
use Rattle.rules.proofs.Expressions.{limits}
use Rattle.expressions.specs.Operators.{in_run, run_numbers, run_result}

pub limits_fit : (z : ℤ) → in_limits z ≡ true → SFits w32 z
unfolding lowest highest
limits_fit z e = let (a, b) = limits z (subst T (sym e) tt) in omega ints

run_operated : (o : Operator) (a b : Option ℤ) → run_result (in_run o a b) ≡ operated o (run_result a) (run_result b)
unfolding in_run operated limited choose
run_operated o None b = refl
run_operated o (Some x) None = refl
run_operated o (Some x) (Some y) = by (in_limits (operate o x y))
  where
    by : (t : Bool) → run_result (cond t (Some (operate o x y)) None) ≡ cond t (number (operate o x y)) past
    by true = refl
    by false = refl

pub run_value : (x : Expr) (f : Store) → run_result (meaning run_numbers (λ w. Some (f w)) x) ≡ value x f
unfolding meaning value
run_value (constant k) f = refl
run_value (variable w) f = refl
run_value (group x) f = run_value x f
run_value (apply o x y) f = run_operated o (meaning run_numbers (λ w. Some (f w)) x) (meaning run_numbers (λ w. Some (f w)) y) ∙ rw (run_value x f, run_value y f)
