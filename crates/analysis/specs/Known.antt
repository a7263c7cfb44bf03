-- Which variables are not known before a loop.
use Rattle.std.specs.Prelude.{◌≡◌, Bool, cond, ◌&&◌, ℕ, zero, suc, ◌+◌, ◌*◌, ◌<◌}
use Rattle.ints.specs.Ints.{eq_z}
use Rattle.rules.specs.Values.{lowest, highest}
use Rattle.rules.specs.Ranges.{Range, Env}

-- [−L,L]: nothing is known
abbrev pub is_full : Range → Bool
is_full s = eq_z s.lo lowest && eq_z s.hi highest

-- 2 to the power of v
unfoldable pub bit_of : ℕ → ℕ
bit_of zero = 1
bit_of (suc v) = 2 * bit_of v

-- the sum of 2^v over those of the first n variables v whose range is [−L,L]
unfoldable pub not_known : ℕ → Env → ℕ
not_known zero ρ = 0
not_known (suc n) ρ = not_known n ρ + cond (is_full (ρ n)) (bit_of n) 0

-- x is that sum over all 16 variables, if it is to be noted: the lent table has some place
abbrev pub NotedFor : ℕ → Env → ℕ → Type 0
NotedFor places ρ x = 0 < places → x ≡ not_known 16 ρ
