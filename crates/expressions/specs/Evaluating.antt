-- What the evaluators' functions give: the analysis has a range for each variable, a run a number.
use Rattle.std.specs.Prelude.{◌≡◌, cond, List, [], ℕ, suc, ◌≤◌, ltb, get_or, drop, ℤ, pos}
use Rattle.rules.specs.declared.Value.{Value}
use Rattle.rules.specs.Expressions.{Expr, Numbers, meaning}
use Rattle.rules.specs.Parse.{Parsed, parsed}
use Rattle.rules.specs.Ranges.{Env}
use Rattle.rules.specs.Evaluate.{not_past}
use Rattle.expressions.specs.Leaves.{cut_expr}

-- a number of a list by its index, 0 past the last
abbrev pub entry : List ℤ → ℕ → ℤ
entry s i = get_or s i (pos 0)

-- each variable's ends, from two lists
unfoldable pub values_of : List ℤ → List ℤ → ℕ → Value
values_of los his w = not_past (entry los w) (entry his w)

-- each variable's range, from a list of pairs of ends
unfoldable pub ends_of : List (List ℤ) → Env
ends_of r w = record { lo = get_or (get_or r w []) 0 (pos 0); hi = get_or (get_or r w []) 1 (pos 0) }

-- a byte more, if there is one
unfoldable pub shut : ℕ → ℕ → ℕ
shut next end = cond (ltb next end) (suc next) next

-- what was read of a text from `at` on, if it was, comes to v, and its rest begins at `next`
pub record Gives {A : Type 0} (n : Numbers A) (f : ℕ → A) (text : List ℕ) (p : Parsed) (at : ℕ) (v : A) (next : ℕ) : Type 0 where
  pub from : at ≤ next
  pub same : (x : Expr) (s : List ℕ) → p ≡ parsed x s → (v ≡ meaning n f (cut_expr x)) × (drop next text ≡ s)
