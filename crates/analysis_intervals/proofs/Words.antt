-- The place of a word in the text.
use mathlib.Core.Path.{◌≡◌}
use Prim.Native.Nat.{ℕ, ◌+◌, ◌-◌}
use native.Mathlib.Omega.{arith}

-- the length of a word from its two ends
pub width : (a n : ℕ) → a + n - a ≡ n
width a n = omega arith
