-- Numbers near 0, and their sum, fit an `i64`.
use mathlib.Core.Path.{◌≡◌}
use Prim.Native.Nat.{ℕ, ◌≤◌}
use lib.IntN.{ℤ, ◌+ℤ◌, ◌-ℤ◌, neg_ℤ, pos}
use mir.Syntax.{w64}
use mir.Val.{SFits}
use Rattle.ints.proofs.Parts.{ints, add_parts, neg_parts, minus_parts}
use Rattle.rules_steps.specs.Ends.{Near}

pub near_fits : {a b : ℤ} → Near 512 a → Near 512 b → SFits w64 a × SFits w64 b × SFits w64 (a +ℤ b)
near_fits {a} {b} h k = omega (ints, add_parts a b)

pub neg_fits : (n : ℕ) → n ≤ 1_000_000_000 → SFits w64 (pos 0 -ℤ pos n)
neg_fits n h = omega (ints, minus_parts (pos 0) (pos n))

pub neg_is : (n : ℕ) → pos 0 -ℤ pos n ≡ neg_ℤ (pos n)
neg_is n = omega (ints, minus_parts (pos 0) (pos n), neg_parts (pos n))
