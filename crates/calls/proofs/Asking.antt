-- Question 16, index by index.
use mathlib.Core.Path.{◌≡◌, refl, ◌∙◌}
use mathlib.Core.Bool.{Bool, true, false, not, cond}
use mathlib.Core.List.{List, [], ◌∷◌}
use Prim.Native.Nat.{ℕ, suc, ◌+◌, ◌-◌, ◌≤◌, ◌<◌}
use native.Mathlib.Numerals.{add-one}
use native.Mathlib.Omega.{arith}
use lib.ListN.{length, drop, drop_of_length-le}
use lib.Seq.{drop-cons, drop-drop}
use Rattle.rules.specs.Verdicts.{passed as Passed, refused as Refused}
use Rattle.rules.specs.Calls.{prices_verdict}
use Rattle.calls.specs.First.{fine_first}

module _ (l : List ℕ) where
  pub from_start : prices_verdict 4 0 l ≡ prices_verdict (4 - 0) 0 (drop 0 l)
  from_start = refl

  module _ (i : ℕ) where
    -- by the list from index i on
    first_asked : (n : ℕ) (xs : List ℕ) → prices_verdict (suc n) i xs ≡ cond (fine_first xs) (prices_verdict n (i + 1) (drop 1 xs)) (Refused 16 i)
    unfolding prices_verdict
    first_asked n [] = refl
    first_asked n (p ∷ ps) = rw add-one

    -- the test of index i
    module _ (h : i < 4) {b : Bool} (told : b ≡ fine_first (drop i l)) where
      asked : prices_verdict (4 - i) i (drop i l) ≡ cond b (prices_verdict (4 - (i + 1)) (i + 1) (drop (i + 1) l)) (Refused 16 i)
      asked =
          let e : 4 - i ≡ suc (4 - (i + 1)) = omega arith in
          rw (e, told, ← drop-drop 1 i l) (first_asked (4 - (i + 1)) (drop i l))

      pub from_next : not b ≡ false → prices_verdict (4 - i) i (drop i l) ≡ prices_verdict (4 - (i + 1)) (i + 1) (drop (i + 1) l)
      from_next t = asked ∙ by b t
        where
          by : (c : Bool) → not c ≡ false → cond c (prices_verdict (4 - (i + 1)) (i + 1) (drop (i + 1) l)) (Refused 16 i) ≡ prices_verdict (4 - (i + 1)) (i + 1) (drop (i + 1) l)
          by true t = refl
          by false t = absurd (let z : ◌≡◌ {A = ℕ} 0 1 = cc in omega arith)

      pub from_wrong : not b ≡ true → prices_verdict (4 - i) i (drop i l) ≡ Refused 16 i
      from_wrong t = asked ∙ by b t
        where
          by : (c : Bool) → not c ≡ true → cond c (prices_verdict (4 - (i + 1)) (i + 1) (drop (i + 1) l)) (Refused 16 i) ≡ Refused 16 i
          by true t = absurd (let z : ◌≡◌ {A = ℕ} 0 1 = cc in omega arith)
          by false t = refl

    -- past the fourth
    module _ (h : i ≡ 4) where
      pub from_extra : 4 < length l → prices_verdict (4 - i) i (drop i l) ≡ Refused 16 4
      unfolding prices_verdict
      from_extra k = rw (h, drop-cons l 4 0 k)

      pub from_end : length l ≤ 4 → prices_verdict (4 - i) i (drop i l) ≡ Passed
      unfolding prices_verdict
      from_end k = rw (h, drop_of_length-le l k)
