-- Question 15, index by index. Assumes nothing.
use mathlib.Core.Path.{◌≡◌, refl, sym, ◌∙◌, ap}
use mathlib.Core.Bool.{Bool, true, false, cond, ◌&&◌, not}
use mathlib.Core.List.{List, [], ◌∷◌}
use Prim.Native.Nat.{ℕ, suc, ◌+◌, ◌≤◌, ◌<◌}
use native.Mathlib.Numerals.{add-one}
use native.Mathlib.Omega.{arith}
use lib.IntN.{ℤ, pos}
use lib.Signed.{le_z}
use lib.ListN.{length, get_or, take, drop, drop_of_length-le}
use lib.Seq.{drop-cons, get_or-take, length-take-le}
use Rattle.rules.specs.Verdicts.{Verdict}
use Rattle.rules.specs.Verdicts.{passed as Passed, refused as Refused}
use Rattle.rules.specs.Ranges.{Range}
use Rattle.rules.specs.Scripts.{pair_range, pair_ranges}
use Rattle.rules.specs.Calls.{store_verdict}
use Rattle.rules.proofs.Laws.{pairs_length}
use Rattle.analysis.proofs.Legals.{pairs_at}

module _ (r : List (List ℤ)) (n : ℕ) (xs : List ℤ) where
  abbrev rs : List Range
  rs = take n (pair_ranges r)

  abbrev at : ℕ → Range
  at i = pair_range (get_or r i [])

  -- the verdict from index i on
  pub from : ℕ → Verdict
  from i = store_verdict i (drop i rs) (drop i xs)

  pub from_start : store_verdict 0 rs xs ≡ from 0
  unfolding from
  from_start = refl

  module _ (enough : n ≤ length r) where
    long : length rs ≡ n
    long = length-take-le n (pair_ranges r) (omega (arith, pairs_length r))

    range_at : (i : ℕ) → i < n → drop i rs ≡ at i ∷ drop (suc i) rs
    range_at i h =
        let none : Range = record { lo = pos 0; hi = pos 0 } in
        drop-cons rs i none (omega (arith, long)) ∙ ap {B = List Range} (λ x. x ∷ drop (suc i) rs) (get_or-take n (pair_ranges r) i none h ∙ pairs_at r i)

    at_index : (i : ℕ) → i < n → i < length xs → from i ≡ cond (le_z (at i).lo (get_or xs i (pos 0)) && le_z (get_or xs i (pos 0)) (at i).hi) (from (suc i)) (Refused 15 i)
    unfolding store_verdict from
    at_index i h k = λ j. store_verdict i (range_at i h j) (drop-cons xs i (pos 0) k j)

    -- the test of index i
    module _ (i : ℕ) (h : i < n) (k : i < length xs) (b : Bool) (e : b ≡ (le_z (at i).lo (get_or xs i (pos 0)) && le_z (get_or xs i (pos 0)) (at i).hi)) where
      tested : from i ≡ cond b (from (suc i)) (Refused 15 i)
      tested = at_index i h k ∙ ap (λ t. cond t (from (suc i)) (Refused 15 i)) (sym e)

      pub from_next : not b ≡ false → from i ≡ from (i + 1)
      from_next t = tested ∙ by b t ∙ ap from (sym (add-one i))
        where
          by : (b : Bool) → not b ≡ false → cond b (from (suc i)) (Refused 15 i) ≡ from (suc i)
          by true t = refl
          by false t = absurd (let z : ◌≡◌ {A = ℕ} 0 1 = cc in omega arith)

      pub from_wrong : not b ≡ true → from i ≡ Refused 15 i
      from_wrong t = tested ∙ by b t
        where
          by : (b : Bool) → not b ≡ true → cond b (from (suc i)) (Refused 15 i) ≡ Refused 15 i
          by true t = absurd (let z : ◌≡◌ {A = ℕ} 0 1 = cc in omega arith)
          by false t = refl

    pub from_missing : (i : ℕ) → i < n → length xs ≤ i → from i ≡ Refused 15 i
    unfolding store_verdict from
    from_missing i h k = λ j. store_verdict i (range_at i h j) (drop_of_length-le xs k j)

    none_left : (i : ℕ) → n ≤ i → drop i rs ≡ []
    none_left i h = let k : length rs ≤ i = omega (arith, long) in drop_of_length-le rs k

    pub from_extra : (i : ℕ) → n ≤ i → i < length xs → from i ≡ Refused 15 i
    unfolding store_verdict from
    from_extra i h k = λ j. store_verdict i (none_left i h j) (drop-cons xs i (pos 0) k j)

    pub from_end : (i : ℕ) → n ≤ i → length xs ≤ i → from i ≡ Passed
    unfolding store_verdict from
    from_end i h k = λ j. store_verdict i (none_left i h j) (drop_of_length-le xs k j)
