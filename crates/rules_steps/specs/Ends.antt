-- How large the ends of a step get: what the code's numbers need.
use Rattle.std.specs.Prelude.{ℕ, ◌*◌, ◌≤◌, ℤ, pos, neg_ℤ, ◌≤ℤ◌}
use Rattle.rules_steps.specs.declared.Step.{Step}
use Rattle.rules_steps.specs.Joins.{factor_limit}

-- a number within n times L of 0
pub record Near (n : ℕ) (z : ℤ) : Type 0 where
  pub low : neg_ℤ (pos (n * 1_000_000_000)) ≤ℤ z
  pub high : z ≤ℤ pos (n * 1_000_000_000)

-- two factors, not above the cap
pub record Factors (f g : ℕ) : Type 0 where
  pub first : f ≤ factor_limit
  pub second : g ≤ factor_limit

-- the ends of a step that n rows make
abbrev pub EndsWithin : ℕ → Step → Type 0
EndsWithin n (Step.Add a b) = Near n a × Near n b
EndsWithin n (Step.Grow f g) = Factors f g
EndsWithin n (Step.Shrink f g) = Factors f g
EndsWithin n Step.Unknown = Unit {0}
