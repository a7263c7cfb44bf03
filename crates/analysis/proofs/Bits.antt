-- Powers of 2, and the variables that are not known, one by one.
use mathlib.Core.Path.{◌≡◌, refl, ap, subst}
use mathlib.Core.Bool.{cond}
use Prim.Native.Nat.{ℕ, zero, suc, ◌+◌, ◌-◌, ◌*◌, ◌≤◌}
use native.Mathlib.Numerals.{add-one}
use native.Mathlib.Omega.{arith}
use Rattle.rules.specs.Ranges.{Env}
use Rattle.analysis.specs.Known.{is_full, bit_of, not_known}

bit_up : (k n : ℕ) → bit_of n ≤ bit_of (k + n)
unfolding bit_of
bit_up zero n = let e : 0 + n ≡ n = omega arith in omega (arith, ap bit_of e)
bit_up (suc k) n = let e : suc k + n ≡ suc (k + n) = omega arith in omega (arith, ap bit_of e, bit_up k n)

pub bit_small : (v : ℕ) → v ≤ 16 → bit_of v ≤ 65_536
unfolding bit_of
bit_small v h = let e : (16 - v) + v ≡ 16 = omega arith in subst (λ m. bit_of v ≤ bit_of m) e (bit_up (16 - v) v)

pub bit_none : 1 ≡ bit_of 0
unfolding bit_of
bit_none = refl

pub bit_more : (v : ℕ) → bit_of (v + 1) ≡ 2 * bit_of v
unfolding bit_of
bit_more v = rw add-one

pub known_none : (ρ : Env) → 0 ≡ not_known 0 ρ
unfolding not_known
known_none ρ = refl

pub known_more : (v : ℕ) (ρ : Env) → not_known (v + 1) ρ ≡ not_known v ρ + cond (is_full (ρ v)) (bit_of v) 0
unfolding not_known
known_more v ρ = rw add-one
