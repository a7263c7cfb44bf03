-- Eight tables end to end, and a part that is put. Assumes nothing.
use mathlib.Core.Path.{◌≡◌, ◌∙◌, ap}
use mathlib.Core.List.{List}
use Prim.Native.Nat.{ℕ, zero, suc, ◌-◌, ◌*◌, ◌≤◌, ◌<◌}
use native.Mathlib.Nat.{mul-suc}
use native.Mathlib.Omega.{arith}
use lib.ListN.{length, get_or, take, drop, replicate, get_or-replicate, length-drop}
use lib.Seq.{length-take-le}
use Rattle.rules_frames.specs.Frames.{total}
use Rattle.calls_lists.specs.declared.Extent.{Extent}
use Rattle.calls_lists.specs.Parts.{part_of, ExtentOf}
use Rattle.calls_lists.proofs.Splices.{wrote_length, wrote_part, wrote_others}
use Rattle.calls_scripts.specs.Held.{table_lengths, slice_of, Inside, PutAt}

-- k tables of n
total_same : (n m k : ℕ) → k ≤ m → total (take k (replicate m n)) ≡ n * k
unfolding total
total_same n m zero h = omega arith
total_same n zero (suc k) h = absurd (omega arith)
total_same n (suc m) (suc k) h = omega (arith, total_same n m k (omega arith), mul-suc n k)

-- where table k begins, and how long it is
pub tables_before : (k : ℕ) → k ≤ 8 → total (take k table_lengths) ≡ 1_024 * k
tables_before k h = total_same 1_024 8 k h

pub table_size : (k : ℕ) → k < 8 → get_or table_lengths k 0 ≡ 1_024
table_size k h = get_or-replicate 8 k 1_024 0 h

pub tables_whole : (tables : List ℕ) → length tables ≡ 8_192 → total table_lengths ≡ length tables
tables_whole tables e = omega (arith, e, tables_before 8 (omega arith))

-- a slice is as long as its bounds say
pub slice_length : {A : Type 0} (xs : List A) (p : Extent) → Inside p xs → length (slice_of p xs) ≡ p.to - p.from
slice_length xs p (a, b) = length-take-le (p.to - p.from) (drop p.from xs) (omega (arith, length-drop p.from xs))

-- the parts after one was put
module _ {A : Type 0} (lengths : List ℕ) (k : ℕ) (s : Extent) (at : ExtentOf lengths k s) (xs xs' ys : List A) (inside : k < length lengths) (whole : total lengths ≡ length xs) (p : PutAt s ys xs xs') where
  pub put_length : length xs' ≡ length xs
  put_length = ap (λ (z : List A). length z) p.all ∙ wrote_length lengths k s at xs ys inside whole p.size

  pub put_part : part_of lengths k xs' ≡ ys
  put_part = ap (part_of lengths k) p.all ∙ wrote_part lengths k s at xs ys inside whole p.size

  pub put_others : (j : ℕ) → j < length lengths → (j ≡ k → ⊥) → part_of lengths j xs' ≡ part_of lengths j xs
  put_others j l other = ap (part_of lengths j) p.all ∙ wrote_others lengths k s at xs ys inside whole p.size j l other
