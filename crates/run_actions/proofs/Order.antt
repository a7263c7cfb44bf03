-- A comparison by its code and the order of two values. Assumes nothing.
use mathlib.Core.Path.{◌≡◌, refl, sym, ap, subst}
use mathlib.Core.Bool.{Bool, true, false, not, ◌&&◌, ◌||◌}
use Prim.Native.Nat.{ℕ, zero, suc, ◌/◌, ◌%◌}
use native.Mathlib.Omega.{arith}
use lib.Dec.{T, eqb}
use lib.IntN.{ℤ}
use lib.Signed.{le_z, lt_z}
use Rattle.ints.specs.Ints.{eq_z}
use Rattle.ints.proofs.Parts.{ints, eq_z_true}
use Rattle.ints.proofs.Diffs.{eq_refl}
use Rattle.rules.specs.declared.Comparison.{Comparison}
use Rattle.rules.specs.declared.Comparison.TheVariants.{Less, AtMost, Greater, AtLeast, Equal, Different}
use Rattle.rules.specs.Values.{compares}
use Rattle.table.specs.Code.{comparison_by}
use Rattle.table.specs.Packing.{IsComparison}

-- a comparison of values of this order
abbrev pub ordered : Comparison → Bool → Bool → Bool
ordered Less less equal = less
ordered AtMost less equal = less || equal
ordered Greater less equal = not less && not equal
ordered AtLeast less equal = not less
ordered Equal less equal = equal
ordered Different less equal = not equal

-- the code's bits: it passes where less, where equal, where greater
pub record Bits (n : ℕ) : Type 0 where
  pub less : eqb (n % 2) 1 ≡ ordered (comparison_by n) true false
  pub equal : eqb (n / 2 % 2) 1 ≡ ordered (comparison_by n) false true
  pub greater : eqb (n / 4) 1 ≡ ordered (comparison_by n) false false

pub bits_of : (n : ℕ) → IsComparison n → Bits n
bits_of zero h = absurd (omega arith)
bits_of (suc zero) h = record { less = refl; equal = refl; greater = refl }
bits_of (suc (suc zero)) h = record { less = refl; equal = refl; greater = refl }
bits_of (suc (suc (suc zero))) h = record { less = refl; equal = refl; greater = refl }
bits_of (suc (suc (suc (suc zero)))) h = record { less = refl; equal = refl; greater = refl }
bits_of (suc (suc (suc (suc (suc zero))))) h = record { less = refl; equal = refl; greater = refl }
bits_of (suc (suc (suc (suc (suc (suc zero)))))) h = record { less = refl; equal = refl; greater = refl }
bits_of (suc (suc (suc (suc (suc (suc (suc n))))))) h = absurd (omega arith)

module _ (x y : ℤ) where
  -- neither less nor equal is above
  above : lt_z x y ≡ false → eq_z x y ≡ false → (t : Bool) → le_z x y ≡ t → t ≡ false
  above p q false e = refl
  above p q true e = let s : x ≡ y = omega ints in absurd (subst T q (subst (λ z. T (eq_z x z)) s (eq_refl x)))

  -- less is not equal
  pub less_only : lt_z x y ≡ true → eq_z x y ≡ false
  less_only p = by (eq_z x y) refl
    where
      by : (t : Bool) → eq_z x y ≡ t → t ≡ false
      by false e = refl
      by true e = let s : x ≡ y = eq_z_true x y e in absurd (omega ints)

  at_most : (l e : Bool) → lt_z x y ≡ l → eq_z x y ≡ e → (l || e) ≡ le_z x y
  at_most true e p q = sym (let z : le_z x y ≡ true = omega ints in z)
  at_most false true p q = let s : x ≡ y = eq_z_true x y q in sym (let z : le_z x y ≡ true = omega ints in z)
  at_most false false p q = sym (above p q (le_z x y) refl)

  greater : (l e : Bool) → lt_z x y ≡ l → eq_z x y ≡ e → (not l && not e) ≡ lt_z y x
  greater true e p q = sym (let z : lt_z y x ≡ false = omega ints in z)
  greater false true p q = let s : x ≡ y = eq_z_true x y q in sym (let z : lt_z y x ≡ false = omega ints in z)
  greater false false p q = let a : le_z x y ≡ false = above p q (le_z x y) refl in sym (let z : lt_z y x ≡ true = omega ints in z)

  at_least : (l : Bool) → lt_z x y ≡ l → not l ≡ le_z y x
  at_least true p = sym (let z : le_z y x ≡ false = omega ints in z)
  at_least false p = sym (let z : le_z y x ≡ true = omega ints in z)

  pub by_order : (k : Comparison) (l e : Bool) → lt_z x y ≡ l → eq_z x y ≡ e → ordered k l e ≡ compares k x y
  unfolding compares
  by_order Less l e p q = sym p
  by_order AtMost l e p q = at_most l e p q
  by_order Greater l e p q = greater l e p q
  by_order AtLeast l e p q = at_least l p
  by_order Equal l e p q = sym q
  by_order Different l e p q = ap not (sym q)
