-- The counts of a loop by its head row. Assumes nothing.
use mathlib.Core.Path.{◌≡◌, refl, sym, ap}
use mathlib.Core.Bool.{Bool, true, false, cond}
use mathlib.Core.List.{List, [], ◌∷◌}
use Prim.Native.Nat.{ℕ, zero, suc, ◌<◌}
use native.Mathlib.Omega.{arith}
use lib.Dec.{T, eqb, eqb→eq, eqb_refl}
use lib.ListN.{length, get_or}
use Rattle.run_actions.specs.States.{count_in, loop_counts, Rising}

-- the heads after the first rise too, and none of them is the first
pub rising_rest : (h : ℕ) (heads : List ℕ) → Rising (h ∷ heads) → Rising heads
rising_rest h heads f j k l m = f (suc j) (suc k) (omega arith) (omega arith)

-- of loop k
pub counts_at_lem : (heads : List ℕ) (counts : List (List ℕ)) → Rising heads → (k : ℕ) → k < length heads → k < length counts → loop_counts heads counts (get_or heads k 0) ≡ get_or counts k []
unfolding loop_counts
counts_at_lem [] counts f k h l = absurd (omega arith)
counts_at_lem (x ∷ heads) [] f k h l = absurd (omega arith)
counts_at_lem (x ∷ heads) (c ∷ counts) f zero h l = by (eqb x x) (eqb_refl x)
  where
    by : (b : Bool) → T b → cond b c (loop_counts heads counts x) ≡ c
    by true t = refl
    by false t = absurd t
counts_at_lem (x ∷ heads) (c ∷ counts) f (suc k) h l = by (eqb (get_or heads k 0) x) (eqb→eq (get_or heads k 0) x) (counts_at_lem heads counts (rising_rest x heads f) k (omega arith) (omega arith))
  where
    by : (b : Bool) → (T b → get_or heads k 0 ≡ x) → loop_counts heads counts (get_or heads k 0) ≡ get_or counts k [] → cond b c (loop_counts heads counts (get_or heads k 0)) ≡ get_or counts k []
    by true e q = absurd (omega (arith, e tt, f 0 (suc k) (omega arith) (omega arith)))
    by false e q = q

-- counts that are all 0
pub none_counted : (heads : List ℕ) (counts : List (List ℕ)) → ((k j : ℕ) → count_in counts k j ≡ 0) → (p j : ℕ) → get_or (loop_counts heads counts p) j 0 ≡ 0
unfolding loop_counts
none_counted [] counts z p j = refl
none_counted (h ∷ heads) [] z p j = refl
none_counted (h ∷ heads) (c ∷ counts) z p j = by (eqb p h) (none_counted heads counts (λ k. z (suc k)) p j)
  where
    by : (b : Bool) → get_or (loop_counts heads counts p) j 0 ≡ 0 → get_or (cond b c (loop_counts heads counts p)) j 0 ≡ 0
    by true q = z 0 j
    by false q = q
