-- The step times the turns under != fits 64 bits.
use mathlib.Core.Path.{◌≡◌, ap}
use mathlib.Core.Bool.{false}
use Prim.Native.Nat.{ℕ, ◌+◌, ◌*◌, ◌/◌, ◌≤◌, ◌<◌}
use native.Mathlib.Nat.{div-mul-le_self}
use native.Mathlib.Omega.{arith}
use lib.IntN.{ℤ, pos, negsuc, nat_abs, ◌+ℤ◌, ◌-ℤ◌, ◌*ℤ◌}
use mir.Syntax.{w64}
use mir.Val.{SFits}
use Rattle.ints.specs.Ints.{eq_z}
use Rattle.ints.proofs.Parts.{P, N, ints, add_parts, minus_parts, abs_parts}
use Rattle.ints.proofs.Scale.{mul_P, mul_N}
use Rattle.rules_steps.specs.Ends.{Near}
use Rattle.rules.specs.Ranges.{Range}
use Rattle.rules.specs.Turns.{apart}

pub record Product (a lo : ℤ) (k : ℕ) : Type 0 where
  pub k64 : SFits w64 (pos k)
  pub product : SFits w64 (a *ℤ pos k)
  pub sum : SFits w64 (lo +ℤ a *ℤ pos k)

split : (a : ℤ) (k : ℕ) → P a * k + N a * k ≡ nat_abs a * k
split (pos n) k = omega arith
split (negsuc n) k = omega arith

small : (a lo : ℤ) (k d : ℕ) → Near 1024 lo → k ≤ 2_048_000_000_001 → nat_abs a * k ≤ d → d < 2_048_000_000_001 → Product a lo k
small a lo k d h l m e =
    let q : P a * k + N a * k < 2_048_000_000_001 = omega (arith, split a k) in
    record {
      k64 = omega ints;
      product = omega (ints, mul_P a k, mul_N a k);
      sum = omega (ints, mul_P a k, mul_N a k, add_parts lo (a *ℤ pos k));
    }

gap : (x y : ℤ) → Near 1024 x → Near 1024 y → nat_abs (x -ℤ y) < 2_048_000_000_001
gap x y h k = omega (ints, minus_parts x y, abs_parts (x -ℤ y))

pub product : (a : ℤ) (r n : Range) → eq_z a (pos 1) ≡ false → eq_z a (negsuc 0) ≡ false → Near 1024 r.lo → Near 1024 n.lo → apart a r n ≤ 2_048_000_000_001 → Product a r.lo (apart a r n)
unfolding apart
product a r n e f h k l =
    let d = nat_abs (n.lo -ℤ r.lo) in
    let q : apart a r n ≡ d / nat_abs a = rw (e, f) in
    let m : nat_abs a * apart a r n ≤ d = let z = div-mul-le_self d (nat_abs a) in omega (arith, ap (λ x. nat_abs a * x) q) in
    small a r.lo (apart a r n) d h l m (gap n.lo r.lo k h)
