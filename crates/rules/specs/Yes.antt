-- The questions 8 to 13 in document 01's words, as changed by 02.
use Rattle.std.specs.Prelude.{◌≡◌, ◌⊎◌, not, cond, ℕ, ◌≤◌, T, ℤ, pos, negsuc, ◌+ℤ◌, ◌*ℤ◌, ◌≤ℤ◌}
use Rattle.rules.specs.declared.Comparison.{Comparison}
use Rattle.rules_steps.specs.declared.Step.{Step}
use Rattle.rules_steps.specs.declared.Step.TheVariants.{Add, Grow, Shrink, Unknown}
use Rattle.rules.specs.Expressions.{Expr, variable, group, apply}
use Rattle.rules.specs.declared.Operator.{Operator}
use Rattle.rules.specs.Blocks.{Test, Form, Block, hold}
use Rattle.rules.specs.Steps.{assigns, step, difference}
use Rattle.rules.specs.Ranges.{Range, Env, bounds, edge, Sort, rising, falling, same, differ, sort, is_do}
use Rattle.rules.specs.Trips.{trip}
use Rattle.rules.specs.Questions.{passed, of_trip}

-- 8: "Is the tested variable's step known?"
abbrev pub Known : Step → Type 0
Known st = st ≡ Unknown → ⊥

-- 9: "Does it move: a >= 1, b <= −1, or f >= 2?"
abbrev pub Moves : Step → Type 0
Moves (Add a b) = (pos 1 ≤ℤ a) ⊎ (b ≤ℤ negsuc 0)
Moves (Grow f g) = 2 ≤ f
Moves (Shrink f g) = 2 ≤ f
Moves Unknown = ⊥

-- w is a variable of the expression
pub data Names (w : ℕ) : Expr → Type 0 where
  itself : Names w (variable w)
  grouped : {x : Expr} → Names w x → Names w (group x)
  first : {o : Operator} {x y : Expr} → Names w x → Names w (apply o x y)
  second : {o : Operator} {x y : Expr} → Names w y → Names w (apply o x y)

-- 10: "Is the limit a constant or not assigned in the body, a for's step row included?"; "unchanged if none of its variables is assigned in the body"
abbrev pub Unchanged : Expr → Block → Type 0
Unchanged x body = (w : ℕ) → Names w x → T (not (assigns w body))

-- 11: "Does the comparison fit: < <= with rising Add or Grow, > >= with falling Add or Shrink, == != with Add?"
abbrev pub Fitting : Step → Sort → Type 0
Fitting (Add a b) rising = pos 1 ≤ℤ a
Fitting (Add a b) falling = b ≤ℤ negsuc 0
Fitting (Add a b) same = Unit {0}
Fitting (Add a b) differ = Unit {0}
Fitting (Grow f g) rising = Unit {0}
Fitting (Grow f g) falling = ⊥
Fitting (Grow f g) same = ⊥
Fitting (Grow f g) differ = ⊥
Fitting (Shrink f g) rising = ⊥
Fitting (Shrink f g) falling = Unit {0}
Fitting (Shrink f g) same = ⊥
Fitting (Shrink f g) differ = ⊥
Fitting Unknown d = ⊥

-- "!=: a = b is required. a = 1: .. needing s.hi <= n.lo. a = −1: .. needing s.lo >= n.hi. Otherwise s and n are single numbers, a divides n − s, and the
-- quotient, at least 0, is the figure"
pub record Meets (a b : ℤ) (s n : Range) : Type 0 where
  pub even : a ≡ b
  pub up : a ≡ pos 1 → s.hi ≤ℤ n.lo
  pub down : a ≡ negsuc 0 → n.hi ≤ℤ s.lo
  pub otherwise : (a ≡ pos 1 → ⊥) → (a ≡ negsuc 0 → ⊥) → (s.lo ≡ s.hi) × (n.lo ≡ n.hi) × ((k : ℕ) × (s.lo +ℤ a *ℤ pos k ≡ n.lo))

-- 12: "Grow: s.lo >= 1; Shrink: E >= 1; !=: as above?"; of a do "for == and != the range [s.lo + a, s.hi + b]"
abbrev pub HasFigure : Form → Comparison → Step → Sort → Range → Range → Type 0
HasFigure form c (Add a b) rising s n = Unit {0}
HasFigure form c (Add a b) falling s n = Unit {0}
HasFigure form c (Add a b) same s n = Unit {0}
HasFigure form c (Add a b) differ s n = Meets a b (cond (is_do form) (record { lo = s.lo +ℤ a; hi = s.hi +ℤ b }) s) n
HasFigure form c (Grow f g) d s n = pos 1 ≤ℤ s.lo
HasFigure form c (Shrink f g) d s n = pos 1 ≤ℤ edge c n
HasFigure form c Unknown d s n = Unit {0}

-- 8 to 12 of a loop; ρ the ranges at its start
pub record OwnYes (form : Form) (ρ : Env) (test : Test) (body : Block) : Type 0 where
  pub known : Known (step test.tested body)
  pub moves : Moves (step test.tested body)
  pub unchanged : Unchanged test.limit body
  pub fitting : Fitting (step test.tested body) (sort test.comparison)
  pub figure : HasFigure form test.comparison (step test.tested body) (sort test.comparison) (ρ test.tested) (bounds ρ test.limit)

-- change 1: "Questions 9 and 11 .. read w's step"; "Such loops leave question 8". It is an Add under < <= > or >=, of which 12 asks nothing
pub record CopiedYes (test : Test) (body : Block) (w : ℕ) : Type 0 where
  pub moves : Moves (step w body)
  pub unchanged : Unchanged test.limit body
  pub fitting : Fitting (step w body) (sort test.comparison)

-- change 5: 10 "also passes" the limit w; "The step is then that of the difference .., and questions 9, 11 and 12 read it". It is an Add too
pub record ChasedYes (test : Test) (body : Block) (w : ℕ) : Type 0 where
  pub moves : Moves (difference (step test.tested body) (step w body))
  pub fitting : Fitting (difference (step test.tested body) (step w body)) (sort test.comparison)

-- change 12: a hold "is not asked questions 8 to 12": every hold that passes 19 has yes for them
unfoldable pub HoldsUnasked : Type 0
HoldsUnasked = (i : ℕ) (ρ : Env) (test : Test) (body : Block) → T (trip hold ρ test body).terms → of_trip i (trip hold ρ test body) ≡ passed

-- "at most 1,000,000,000,000"
abbrev pub Affordable : ℕ → Type 0
Affordable n = n ≤ 1_000_000_000_000
