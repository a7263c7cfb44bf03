-- What a state says. Assumes nothing.
use mathlib.Core.Path.{◌≡◌, refl, sym, ◌∙◌, ap, fun_ext}
use mathlib.Core.Bool.{Bool, true, false, cond}
use mathlib.Core.List.{List, [], ◌∷◌, ◌++◌}
use Prim.Native.Nat.{ℕ, zero, suc, ◌+◌, ◌-◌, ◌*◌, ◌≤◌, ◌<◌, max}
use native.Mathlib.Numerals.{add-one}
use native.Mathlib.Omega.{arith}
use borrow.Author.Tests.{le-leb, lt-leb}
use lib.Dec.{leb, eqb}
use lib.ListN.{length, get_or, take, drop, set, length-set}
use lib.Seq.{drop-drop, get_or-drop, take-suc-set}
use Rattle.ints.proofs.Diffs.{cond_elim}
use Rattle.rules.specs.declared.Ending.{Ending}
use Rattle.rules.specs.declared.Ending.TheVariants.{Ended, NoPick}
use Rattle.rules_machine.specs.RowMachine.{TurnCounts}
use Rattle.rules_live.specs.LiveState.{at, loop_number, tally_in}
use Rattle.run_actions.specs.declared.Status.TheVariants.{Going, Over}
use Rattle.run_actions.specs.States.{loop_counts, tally_of}
use Rattle.live_state.specs.Numbers.{status_in, given_at, counts_in}

-- ---- the status
pub status_waits : (s i : ℕ) → s ≡ 1 → Over NoPick i ≡ status_in s i
unfolding status_in
status_waits s i e = rw e

pub status_going : (s i : ℕ) → (s ≡ 1 → ⊥) → s ≤ 2 → Going ≡ status_in s i
unfolding status_in
status_going zero i f h = refl
status_going (suc zero) i f h = absurd (f refl)
status_going (suc (suc zero)) i f h = refl
status_going (suc (suc (suc n))) i f h = absurd (omega arith)

pub status_ended : (s i : ℕ) → s ≡ 3 → Over Ended i ≡ status_in s i
unfolding status_in
status_ended s i e = rw e

pub status_range : (s i : ℕ) → 2 < s → (s ≡ 3 → ⊥) → Over Ending.Range i ≡ status_in s i
unfolding status_in
status_range zero i h f = absurd (omega arith)
status_range (suc zero) i h f = absurd (omega arith)
status_range (suc (suc zero)) i h f = absurd (omega arith)
status_range (suc (suc (suc zero))) i h f = absurd (f refl)
status_range (suc (suc (suc (suc n)))) i h f = refl

pub given_held : (s q : ℕ) → s ≤ 2 → given_at s q ≡ q
unfolding given_at
given_held s q h = rw (le-leb s 2 h)

pub given_done : (s q : ℕ) → 2 < s → given_at s q ≡ 0
unfolding given_at
given_done s q h = rw (lt-leb s 2 h)

pub given_most : (s q : ℕ) → given_at s q ≤ q
unfolding given_at
given_most s q = cond_elim (λ z. z ≤ q) (leb s 2) q 0 (λ _. omega arith) (λ _. omega arith)

-- ---- the counts
-- of one loop more
counts_more : (k : ℕ) (ns : List ℕ) → counts_in (suc k) ns ≡ counts_in k ns ++ ((at ns (3 * k + 0) ∷ (at ns (3 * k + 1) - at ns (3 * k + 0)) ∷ at ns (3 * k + 2) ∷ []) ∷ [])
unfolding counts_in
counts_more zero ns = refl
counts_more (suc k) ns =
    ap {B = List (List ℕ)} (λ l. (at ns 0 ∷ (at ns 1 - at ns 0) ∷ at ns 2 ∷ []) ∷ l)
    (counts_more k (drop 3 ns) ∙ (λ i. counts_in k (drop 3 ns) ++ ((further 0 i ∷ (further 1 i - further 0 i) ∷ further 2 i ∷ []) ∷ [])))
  where
    further : (j : ℕ) → get_or (drop 3 ns) (3 * k + j) 0 ≡ get_or ns (3 * suc k + j) 0
    further j = get_or-drop 3 ns (3 * k + j) 0 ∙ ap (λ z. get_or ns z 0) (let w : 3 + (3 * k + j) ≡ 3 * suc k + j = omega arith in w)

-- loop k is read
pub counts_next : (ns : List ℕ) (k : ℕ) (counts : List (List ℕ)) → length counts ≡ 16 → k < 16 → take k counts ≡ counts_in k (drop 16 ns)
    → let x : List ℕ = get_or ns (16 + 3 * k + 0) 0 ∷ (get_or ns (16 + 3 * k + 1) 0 - get_or ns (16 + 3 * k + 0) 0) ∷ get_or ns (16 + 3 * k + 2) 0 ∷ [] in
    take (k + 1) (set counts k x) ≡ counts_in (k + 1) (drop 16 ns)
counts_next ns k counts long h e =
    rw (add-one k)
    (take-suc-set counts k _ (omega arith) ∙ (λ i. e i ++ ((further 0 i ∷ (further 1 i - further 0 i) ∷ further 2 i ∷ []) ∷ [])) ∙ sym (counts_more k (drop 16 ns)))
  where
    further : (j : ℕ) → get_or ns (16 + 3 * k + j) 0 ≡ get_or (drop 16 ns) (3 * k + j) 0
    further j = ap (λ z. get_or ns z 0) (let w : 16 + 3 * k + j ≡ 16 + (3 * k + j) = omega arith in w) ∙ sym (get_or-drop 16 ns (3 * k + j) 0)

-- the numbers of a loop are within each other
pub data Fits : ℕ → List ℕ → Type 0 where
  no_loop_lem : {ns : List ℕ} → Fits 0 ns
  one_loop : {n : ℕ} {ns : List ℕ} → at ns 0 ≤ at ns 1 → at ns 0 ≤ at ns 2 → Fits n (drop 3 ns) → Fits (suc n) ns

-- the counts say what the state says
module _ (p : ℕ) where
  loop_says : (hs ns : List ℕ) (counts : List (List ℕ)) → Fits (length hs) ns → take (length hs) counts ≡ counts_in (length hs) ns
      → (get_or (loop_counts hs counts p) 0 0 ≡ loop_number hs ns p 0) × (get_or (loop_counts hs counts p) 1 0 + get_or (loop_counts hs counts p) 0 0 ≡ loop_number hs ns p 1)
      × (max (get_or (loop_counts hs counts p) 2 0) (get_or (loop_counts hs counts p) 0 0) ≡ loop_number hs ns p 2)
  unfolding loop_counts loop_number counts_in
  loop_says [] ns counts f e = (refl, refl, refl)
  loop_says (h ∷ hs) ns [] f e = absurd (let z : ◌≡◌ {A = ℕ} 0 1 = cc in omega arith)
  loop_says (h ∷ hs) ns (c ∷ counts) (one_loop a b f) e =
      let x : c ≡ at ns 0 ∷ (at ns 1 - at ns 0) ∷ at ns 2 ∷ [] = cc in
      let y : take (length hs) counts ≡ counts_in (length hs) (drop 3 ns) = cc in
      by (eqb p h) x (loop_says hs (drop 3 ns) counts f y)
    where
      by : (t : Bool) → c ≡ at ns 0 ∷ (at ns 1 - at ns 0) ∷ at ns 2 ∷ []
          → (get_or (loop_counts hs counts p) 0 0 ≡ loop_number hs (drop 3 ns) p 0) × (get_or (loop_counts hs counts p) 1 0 + get_or (loop_counts hs counts p) 0 0 ≡ loop_number hs (drop 3 ns) p 1)
          × (max (get_or (loop_counts hs counts p) 2 0) (get_or (loop_counts hs counts p) 0 0) ≡ loop_number hs (drop 3 ns) p 2)
          → let l : List ℕ = cond t c (loop_counts hs counts p) in
          (get_or l 0 0 ≡ cond t (at ns 0) (loop_number hs (drop 3 ns) p 0)) × (get_or l 1 0 + get_or l 0 0 ≡ cond t (at ns 1) (loop_number hs (drop 3 ns) p 1))
          × (max (get_or l 2 0) (get_or l 0 0) ≡ cond t (at ns 2) (loop_number hs (drop 3 ns) p 2))
      by true x q = rw x (refl, omega arith, omega arith)
      by false x q = q

pub tally_says : (hs ns : List ℕ) (counts : List (List ℕ)) → Fits (length hs) ns → take (length hs) counts ≡ counts_in (length hs) ns → tally_of hs counts ≡ tally_in hs ns
unfolding tally_in
tally_says hs ns counts f e = λ i. record {
  turns = fun_ext (λ p. (loop_says p hs ns counts f e).0) i;
  sum = fun_ext (λ p. (loop_says p hs ns counts f e).1) i;
  most = fun_ext (λ p. (loop_says p hs ns counts f e).2) i;
}
