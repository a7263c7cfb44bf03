-- The part of one script, as a slice has it. Assumes nothing.
use mathlib.Core.Path.{◌≡◌, ◌∙◌, ap}
use mathlib.Core.List.{List}
use Prim.Native.Nat.{ℕ, ◌-◌, ◌≤◌, ◌<◌}
use native.Mathlib.Omega.{arith}
use lib.ListN.{length, get_or, take, drop, length-drop}
use lib.Seq.{length-take-le}
use Rattle.rules_frames.specs.Frames.{total}
use Rattle.calls_lists.specs.declared.Extent.{Extent}
use Rattle.calls_lists.specs.Parts.{part_of, ExtentOf}
use Rattle.calls_lists.proofs.Sums.{sum_within}

-- a part is as long as its length says
pub part_length : {A : Type 0} (lengths : List ℕ) (xs : List A) (k : ℕ) → k < length lengths → total lengths ≡ length xs → length (part_of lengths k xs) ≡ get_or lengths k 0
part_length lengths xs k h e =
    length-take-le (get_or lengths k 0) (drop (total (take k lengths)) xs) (omega (arith, length-drop (total (take k lengths)) xs, sum_within lengths k h))

module _ (lengths : List ℕ) (k : ℕ) (s : Extent) (h : ExtentOf lengths k s) where
  pub extent_part : {A : Type 0} (xs : List A) → take (s.to - s.from) (drop s.from xs) ≡ part_of lengths k xs
  extent_part xs =
      let e : s.to - s.from ≡ get_or lengths k 0 = omega (arith, h.to) in
      ap (λ n. take n (drop s.from xs)) e ∙ ap (λ n. take (get_or lengths k 0) (drop n xs)) h.from

  pub extent_within : {A : Type 0} (xs : List A) → k < length lengths → total lengths ≡ length xs → (s.from ≤ s.to) × (s.to ≤ length xs)
  extent_within xs l e = (omega (arith, h.to), omega (arith, h.to, h.from, sum_within lengths k l))
