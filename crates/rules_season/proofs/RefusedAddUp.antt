-- The season's refusals: the lines of their numbers add up.
use mathlib.Core.Path.{◌≡◌, refl, ◌∙◌, ap, subst}
use mathlib.Core.Bool.{Bool, true, false, cond, ◌&&◌, ◌||◌}
use mathlib.Core.List.{List, [], ◌∷◌}
use Prim.Native.Nat.{ℕ, zero, suc, ◌+◌, ◌≤◌, ◌<◌}
use native.Mathlib.Omega.{arith}
use lib.Dec.{T, leb, eqb, leb→le, eqb→eq, eqb_refl}
use lib.ListN.{length}
use Rattle.rules.specs.Calls.{Judged, accepted, refuses, four_ones, scratch_size, judged}
use Rattle.rules.specs.Refusals.{is_refusal, RefusalNumbers}
use Rattle.rules.proofs.Refusals.{refusal_numbers}
use Rattle.rules_season.specs.Season.{judged_all, refusals_of, met, sheet_of, counts_from, RefusedAddUp}

-- 1 to 20
small : (q : ℕ) → T (is_refusal q) → (1 ≤ q) × (q < 21)
small q h = by (leb 1 q) (leb q 13) (eqb q 16) (eqb q 17) (leb→le 1 q) (leb→le q 13) (eqb→eq q 16) (eqb→eq q 17) (eqb→eq q 19) h
  where
    by : (a b c d : Bool) → (T a → 1 ≤ q) → (T b → q ≤ 13) → (T c → q ≡ 16) → (T d → q ≡ 17) → (T (eqb q 19) → q ≡ 19) → T (a && b || c || d || eqb q 19) → (1 ≤ q) × (q < 21)
    by true true c d f g h k l t = (omega (arith, f tt), omega (arith, g tt))
    by true false true d f g h k l t = (omega (arith, h tt), omega (arith, h tt))
    by true false false true f g h k l t = (omega (arith, k tt), omega (arith, k tt))
    by true false false false f g h k l t = (omega (arith, l t), omega (arith, l t))
    by false b true d f g h k l t = (omega (arith, h tt), omega (arith, h tt))
    by false b false true f g h k l t = (omega (arith, k tt), omega (arith, k tt))
    by false b false false f g h k l t = (omega (arith, l t), omega (arith, l t))

-- one number among n from q on
abbrev one : ℕ → ℕ → ℕ
one r q = cond (eqb q r) 1 0

same : (q r : ℕ) → q ≡ r → T (eqb q r)
same q r e = subst (λ z. T (eqb q z)) e (eqb_refl q)

one_at : (q r : ℕ) → q ≡ r → one r q ≡ 1
one_at q r e = by (eqb q r) (same q r e)
  where
    by : (b : Bool) → T b → ◌≡◌ {A = ℕ} (cond b 1 0) 1
    by true h = refl
    by false h = absurd h

one_off : (q r : ℕ) → (q ≡ r → ⊥) → one r q ≡ 0
one_off q r f = by (eqb q r) (eqb→eq q r)
  where
    by : (b : Bool) → (T b → q ≡ r) → ◌≡◌ {A = ℕ} (cond b 1 0) 0
    by true g = absurd (f (g tt))
    by false g = refl

none_after : (n q r : ℕ) → r < q → counts_from n q (one r) ≡ 0
unfolding counts_from
none_after zero q r l = refl
none_after (suc n) q r l = omega (arith, one_off q r (λ e. omega arith), none_after n (suc q) r (omega arith))

once : (n q r : ℕ) → q ≤ r → r < q + n → counts_from n q (one r) ≡ 1
unfolding counts_from
once zero q r l m = absurd (omega arith)
once (suc n) q r l m = by (eqb q r) (eqb→eq q r) (same q r) (λ k. once n (suc q) r k (omega arith))
  where
    by : (b : Bool) → (T b → q ≡ r) → (q ≡ r → T b) → (suc q ≤ r → counts_from n (suc q) (one r) ≡ 1) → one r q + counts_from n (suc q) (one r) ≡ 1
    by true f g ih = omega (arith, one_at q r (f tt), none_after n (suc q) r (omega (arith, f tt)))
    by false f g ih = omega (arith, one_off q r g, ih (omega arith))

apart : (n q r : ℕ) (rs : List ℕ) → counts_from n q (λ k. met k (r ∷ rs)) ≡ counts_from n q (one r) + counts_from n q (λ k. met k rs)
unfolding counts_from met
apart zero q r rs = refl
apart (suc n) q r rs = omega (arith, apart n (suc q) r rs)

none_met : (n q : ℕ) → counts_from n q (λ k. met k []) ≡ 0
unfolding counts_from met
none_met zero q = refl
none_met (suc n) q = omega (arith, none_met n (suc q))

-- each file that is refused adds 1
pub refused_add_up : RefusedAddUp
unfolding RefusedAddUp sheet_of judged_all refusals_of RefusalNumbers
refused_add_up [] = none_met 20 1
refused_add_up (f ∷ fs) = by (judged four_ones scratch_size f) (refusal_numbers four_ones scratch_size f) (refused_add_up fs)
  where
    rest : List ℕ
    rest = refusals_of (judged_all fs)

    by : (j : Judged) → ((q p : ℕ) → j ≡ refuses q p → T (is_refusal q)) → counts_from 20 1 (λ q. met q rest) ≡ length rest
        → counts_from 20 1 (λ q. met q (refusals_of (j ∷ judged_all fs))) ≡ length (refusals_of (j ∷ judged_all fs))
    by (accepted s) h e = e
    by (refuses q p) h e = let (a, b) = small q (h q p refl) in omega (arith, apart 20 1 q rest, once 20 1 q a b, e)
