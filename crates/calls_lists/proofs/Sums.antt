-- What the first of some lengths add up to. Assumes nothing.
use mathlib.Core.Path.{◌≡◌, ap}
use mathlib.Core.List.{List, [], ◌∷◌}
use Prim.Native.Nat.{ℕ, zero, suc, ◌+◌, ◌≤◌, ◌<◌}
use native.Mathlib.Numerals.{add-one}
use native.Mathlib.Omega.{arith}
use lib.ListN.{length, get_or, take}
use lib.Seq.{take_all}
use Rattle.rules_frames.specs.Frames.{total}

sum_suc : (l : List ℕ) (k : ℕ) → k < length l → total (take (suc k) l) ≡ total (take k l) + get_or l k 0
unfolding total
sum_suc [] k h = absurd (omega arith)
sum_suc (x ∷ xs) zero h = omega arith
sum_suc (x ∷ xs) (suc k) h = omega (arith, sum_suc xs k (omega arith))

pub sum_next : (l : List ℕ) (k : ℕ) → k < length l → total (take (k + 1) l) ≡ total (take k l) + get_or l k 0
sum_next l k h = rw add-one (sum_suc l k h)

pub sum_part : (l : List ℕ) (k : ℕ) → total (take k l) ≤ total l
unfolding total
sum_part [] zero = omega arith
sum_part [] (suc k) = omega arith
sum_part (x ∷ xs) zero = omega arith
sum_part (x ∷ xs) (suc k) = omega (arith, sum_part xs k)

-- a part ends within the whole
pub sum_within : (l : List ℕ) (k : ℕ) → k < length l → total (take k l) + get_or l k 0 ≤ total l
sum_within l k h = omega (arith, sum_next l k h, sum_part l (k + 1))

-- and no later than a later one begins
pub sum_before : (l : List ℕ) (j k : ℕ) → j < k → k < length l → total (take j l) + get_or l j 0 ≤ total (take k l)
unfolding total
sum_before [] j k h m = absurd (omega arith)
sum_before (x ∷ xs) zero zero h m = absurd (omega arith)
sum_before (x ∷ xs) (suc j) zero h m = absurd (omega arith)
sum_before (x ∷ xs) zero (suc k) h m = omega arith
sum_before (x ∷ xs) (suc j) (suc k) h m = omega (arith, sum_before xs j k (omega arith) (omega arith))

pub sum_all : (l : List ℕ) (k : ℕ) → length l ≤ k → total (take k l) ≡ total l
sum_all l k h = ap total (take_all k l h)
