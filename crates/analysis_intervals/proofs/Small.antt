-- Numbers of 32 bits and their differences, and the numbers beside them, fit 64 bits.
use lib.IntN.{ℤ, pos, ◌+ℤ◌, ◌-ℤ◌}
use mir.Syntax.{w32, w64}
use mir.Val.{SFits}
use Rattle.ints.proofs.Parts.{ints, add_parts, minus_parts, neg_parts}
use Rattle.rules_steps.specs.Ends.{Near}
use Rattle.analysis_intervals.specs.Wide.{Short}

pub record Small (z : ℤ) : Type 0 where
  pub a64 : SFits w64 z
  pub near : Near 5 z
  pub far : Near 1024 z
  pub less : SFits w64 (z -ℤ pos 1)
  pub more : SFits w64 (z +ℤ pos 1)
  pub less_near : Near 5 (z -ℤ pos 1)
  pub more_near : Near 5 (z +ℤ pos 1)

pub small : (z : ℤ) → Short z → Small z
small z h =
    let n = neg_parts (pos 4_294_967_296) in
    record {
      a64 = omega ints;
      near = omega ints;
      far = omega ints;
      less = omega (ints, minus_parts z (pos 1));
      more = omega (ints, add_parts z (pos 1));
      less_near = omega (ints, minus_parts z (pos 1));
      more_near = omega (ints, add_parts z (pos 1));
    }

-- a number of 32 bits, and the difference of two
pub record Word (z : ℤ) : Type 0 where
  pub a64 : SFits w64 z
  pub short : Short z

pub word : (z : ℤ) → SFits w32 z → Word z
word z f = let n = neg_parts (pos 4_294_967_296) in record { a64 = omega ints; short = omega ints }

pub words : (x y : ℤ) → SFits w32 x → SFits w32 y → Word (x -ℤ y)
words x y f g = let n = neg_parts (pos 4_294_967_296) in let d = minus_parts x y in record { a64 = omega ints; short = omega ints }
