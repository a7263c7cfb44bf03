-- A 32-bit value and an unsigned 32-bit number: their sum, difference and product fit 64 bits. Assumes nothing.
use Prim.Native.Nat.{ℕ, ◌≤◌}
use native.Mathlib.Nat.{mul-le-mul}
use native.Mathlib.Omega.{arith}
use lib.IntN.{ℤ, pos, ◌+ℤ◌, ◌-ℤ◌, ◌*ℤ◌}
use mir.Syntax.{w32, w64}
use mir.Val.{Fits, SFits}
use Rattle.ints.proofs.Parts.{P, N, ints, add_parts, minus_parts}
use Rattle.ints.proofs.Scale.{mul_P, mul_N}

pub record Wide (x : ℤ) (c : ℕ) : Type 0 where
  pub x32 : SFits w32 x
  pub x64 : SFits w64 x
  pub c64 : SFits w64 (pos c)
  pub sum : SFits w64 (x +ℤ pos c)
  pub difference : SFits w64 (x -ℤ pos c)
  pub product : SFits w64 (x *ℤ pos c)

pub wide : (x : ℤ) (c : ℕ) → SFits w32 x → Fits w32 c → Wide x c
wide x c f g =
    let p : P x ≤ 2147483648 = omega ints in
    let q : N x ≤ 2147483648 = omega ints in
    let r : c ≤ 4294967295 = omega arith in
    record {
      x32 = f;
      x64 = omega ints;
      c64 = omega ints;
      sum = omega (ints, add_parts x (pos c));
      difference = omega (ints, minus_parts x (pos c));
      product = omega (ints, mul_P x c, mul_N x c, mul-le-mul p r, mul-le-mul q r);
    }
