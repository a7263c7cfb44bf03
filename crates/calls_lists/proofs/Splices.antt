-- One script's part of what is lent is written, and the others keep. Assumes nothing.
use mathlib.Core.Path.{◌≡◌, sym, ◌∙◌, ap}
use mathlib.Core.List.{List, ◌++◌}
use Prim.Native.Nat.{ℕ, ◌+◌, ◌-◌, ◌≤◌, ◌<◌}
use native.Mathlib.Omega.{arith}
use native.Mathlib.Decide.{ℕ_discrete}
use lib.Dec.{T, ltb, ltb→lt, nltb→le}
use mathlib.Core.Bool.{Bool, true, false, not}
use lib.ListN.{length, get_or, take, drop, length-append, length-drop, take-append-drop}
use lib.Seq.{length-take-le, take_at, drop_at, take-append-le, drop-append-le, drop-append-add, drop-drop}
use Rattle.rules_frames.specs.Frames.{total}
use Rattle.calls_lists.specs.declared.Extent.{Extent}
use Rattle.calls_lists.specs.Parts.{part_of, ExtentOf}
use Rattle.calls_lists.proofs.Sums.{sum_within, sum_before}

-- what stands before the seam
front : {A : Type 0} (us zs : List A) (b m : ℕ) → b + m ≤ length us → take m (drop b (us ++ zs)) ≡ take m (drop b us)
front us zs b m h = ap (take m) (drop-append-le b us zs (omega arith)) ∙ take-append-le m (drop b us) zs (omega (arith, length-drop b us))

module _ {A : Type 0} (xs ys : List A) (a n : ℕ) (size : length ys ≡ n) (fits : a + n ≤ length xs) where
  abbrev spliced : List A
  spliced = take a xs ++ (ys ++ drop n (drop a xs))

  pub splice_length : length spliced ≡ length xs
  splice_length = omega (arith, length-append (take a xs) (ys ++ drop n (drop a xs)), length-append ys (drop n (drop a xs)), length-drop n (drop a xs), length-drop a xs, length-take-le a xs (omega arith))

  splice_here : take n (drop a spliced) ≡ ys
  splice_here = ap (take n) (drop_at (take a xs) (ys ++ drop n (drop a xs)) a (length-take-le a xs (omega arith))) ∙ take_at ys _ n size

  splice_before : (b m : ℕ) → b + m ≤ a → take m (drop b spliced) ≡ take m (drop b xs)
  splice_before b m h =
      let l = length-take-le a xs (omega arith) in
      front (take a xs) _ b m (omega arith) ∙ sym (front (take a xs) (drop a xs) b m (omega arith)) ∙ ap (λ z. take m (drop b z)) (take-append-drop a xs)

  splice_after : (b m : ℕ) → a + n ≤ b → take m (drop b spliced) ≡ take m (drop b xs)
  splice_after b m h =
      let r : ℕ = b - (a + n) in
      let p : b ≡ length (take a xs) + (n + r) = omega (arith, length-take-le a xs (omega arith)) in
      let q : n + r ≡ length ys + r = omega arith in
      let w : a + (n + r) ≡ b = omega arith in
      ap (take m)
      (ap (λ i. drop i spliced) p
      ∙ drop-append-add (take a xs) (ys ++ drop n (drop a xs)) (n + r)
      ∙ ap (λ i. drop i (ys ++ drop n (drop a xs))) q
      ∙ drop-append-add ys (drop n (drop a xs)) r
      ∙ drop-drop r n (drop a xs)
      ∙ drop-drop (n + r) a xs
      ∙ ap (λ i. drop i xs) w)

-- by the list of lengths
module _ {A : Type 0} (lengths : List ℕ) (k : ℕ) (s : Extent) (extent : ExtentOf lengths k s) (xs ys : List A) (inside : k < length lengths) (whole : total lengths ≡ length xs)
    (size : length ys ≡ s.to - s.from) where
  abbrev result : List A
  result = take s.from xs ++ (ys ++ drop (s.to - s.from) (drop s.from xs))

  size_is : s.to - s.from ≡ get_or lengths k 0
  size_is = omega (arith, extent.to)

  fits : s.from + (s.to - s.from) ≤ length xs
  fits = omega (arith, extent.to, extent.from, sum_within lengths k inside)

  pub wrote_length : length result ≡ length xs
  wrote_length = splice_length xs ys s.from (s.to - s.from) size fits

  pub wrote_part : part_of lengths k result ≡ ys
  wrote_part = (λ i. take (sym size_is i) (drop (sym extent.from i) result)) ∙ splice_here xs ys s.from (s.to - s.from) size fits

  pub wrote_others : (j : ℕ) → j < length lengths → (j ≡ k → ⊥) → part_of lengths j result ≡ part_of lengths j xs
  wrote_others j l other = by (ltb j k) (ltb→lt j k) (nltb→le j k)
    where
      by : (b : Bool) → (T b → j < k) → (T (not b) → k ≤ j) → part_of lengths j result ≡ part_of lengths j xs
      by true f g = splice_before xs ys s.from (s.to - s.from) size fits (total (take j lengths)) (get_or lengths j 0) (omega (arith, sum_before lengths j k (f tt) inside, extent.from))
      by false f g = splice_after xs ys s.from (s.to - s.from) size fits (total (take j lengths)) (get_or lengths j 0) (omega (arith, sum_before lengths k j (le_ne (g tt)) l, extent.from, extent.to))
        where
          le_ne : k ≤ j → k < j
          le_ne h = go (ℕ_discrete j k)
            where
              go : Dec (j ≡ k) → k < j
              go (yes e) = absurd (other e)
              go (no e) = omega (arith, e)
