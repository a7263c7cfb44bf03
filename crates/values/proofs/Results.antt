-- The value of an expression as one number.
use mathlib.Core.Path.{◌≡◌, refl, ap}
use mathlib.Core.Bool.{Bool, true, false, cond}
use mathlib.Core.List.{List}
use Prim.Native.Nat.{ℕ, ◌+◌, ◌-◌}
use native.Mathlib.Omega.{arith}
use lib.ListN.{take, drop}
use lib.IntN.{ℤ, pos}
use mir.Syntax.{w32}
use mir.Val.{SFits}
use Rattle.ints.specs.Ints.{eq_z}
use Rattle.ints.proofs.Parts.{ints, eq_z_true}
use Rattle.rules.specs.Values.{number, past}
use Rattle.values.specs.Results.{result_in}

-- a 32-bit number is itself
pub in_number : (z : ℤ) → SFits w32 z → result_in z ≡ number z
unfolding result_in
in_number z f = by (eq_z z (pos 4_000_000_000)) (eq_z_true z (pos 4_000_000_000))
  where
    by : (b : Bool) → (b ≡ true → z ≡ pos 4_000_000_000) → cond b past (number z) ≡ number z
    by false e = refl
    by true e = absurd (let y = e refl in omega ints)

pub in_past : result_in (pos 4_000_000_000) ≡ past
unfolding result_in
in_past = refl

-- n bytes from a on
pub part : (s : List ℕ) (a n : ℕ) → take (a + n - a) (drop a s) ≡ take n (drop a s)
part s a n = let e : a + n - a ≡ n = omega arith in ap (λ k. take k (drop a s)) e
