-- Demand 3 from the bytes of a file: an accepted file has an accepted script, and a store that passes question 15 is inside its ranges.
use mathlib.Core.Path.{◌≡◌, refl, sym, ◌∙◌, ap, subst}
use mathlib.Core.Bool.{Bool, true, false, cond, ◌&&◌}
use mathlib.Core.List.{List, [], ◌∷◌}
use Prim.Native.Nat.{ℕ, zero, suc, ◌≤◌, ◌<◌}
use native.Mathlib.Omega.{arith}
use lib.Dec.{T, leb, leb→le, le→leb}
use lib.IntN.{ℤ}
use lib.Signed.{le_z, le_z_yes, ◌≤ℤ◌}
use lib.ListN.{length, get_or}
use Rattle.ints.proofs.Diffs.{cond_true, both}
use Rattle.rules.specs.declared.Ending.{Ending}
use Rattle.rules.specs.declared.LoopCount.{LoopCount}
use Rattle.rules.specs.Bounds.{FinePrice, FinePrices}
use Rattle.rules.specs.Ranges.{Range}
use Rattle.rules.specs.Figures.{Prices}
use Rattle.rules.specs.Questions.{Verdict, passed, refused, verdict}
use Rattle.rules.specs.Scripts.{Pairwise, Script, start_env, store_of, tree_of, Legal, Accepted, StoreIn}
use Rattle.rules.specs.File
use Rattle.rules.specs.Calls.{Judged, accepted, refuses, judged_by, judged_file, prices_of, prices_verdict, Priced, judged_priced, scratch_size, judged, SameFromAnyScratch, store_verdict, RunReply, ran, run_script, ran_script, stored, run_reply}
use Rattle.rules.specs.Claim.{Unspent, Counts-fit, Demand3, Demand3File, Demand3Of}
use Rattle.rules.proofs.Accepted.{refused_not}
use Rattle.rules.proofs.Demand3.{demand3}
use Rattle.rules.proofs.ReadLegal.{read_legal}

no : {A : Type 0} (q p : ℕ) (script : Script) → Judged.refuses q p ≡ accepted script → A
no q p script e = absurd (let z : ◌≡◌ {A = ℕ} 0 1 = cc in omega arith)

-- what accepted prices and an accepted file give
pub record FileAccepted (prices : List ℕ) (scratch : ℕ) (file : List ℕ) (script : Script) : Type 0 where
  pub room : scratch_size ≤ scratch
  pub priced : Priced prices
  pub lines : (ls : List (List ℕ)) × (File.file_script file ≡ File.read script ls)
  pub script_accepted : Accepted (prices_of prices) script

-- a legal script that the questions 8 to 13 accept
pub judged_accepted : (π : Prices) (s script : Script) (v : Verdict) → Legal s → verdict π (length s.rows) (start_env s.ranges) (tree_of s.rows) ≡ v
    → judged_by s v ≡ accepted script → (s ≡ script) × Accepted π script
unfolding judged_by
judged_accepted π s script passed legal v h =
    let same : s ≡ script = cc in
    (same, subst (Accepted π) same (record { legal = legal; loops = v }))
judged_accepted π s script (refused q p) legal v h = no q p script h

module _ (prices : List ℕ) (scratch : ℕ) (file : List ℕ) (script : Script) where
  by_file : (r : File.Reading Script) → T (leb scratch_size scratch) → Priced prices → File.file_script file ≡ r → judged_file (prices_of prices) r ≡ accepted script
      → FileAccepted prices scratch file script
  unfolding judged_file
  by_file (File.read s ls) t q e h =
      let (same, ok) = judged_accepted (prices_of prices) s script _ (read_legal file s ls e) refl h in
      record { room = leb→le scratch_size scratch t; priced = q; lines = (ls, e ∙ ap (λ x. File.read x ls) same); script_accepted = ok }
  by_file (File.refused q p) t r e h = no q p script h

  by_prices : (v : Verdict) → T (leb scratch_size scratch) → prices_verdict 4 0 prices ≡ v → judged_priced prices v file ≡ accepted script → FileAccepted prices scratch file script
  unfolding judged_priced
  by_prices passed t e h = by_file (File.file_script file) t e refl h
  by_prices (refused q p) t e h = no q p script h

  pub file_accepted : judged prices scratch file ≡ accepted script → FileAccepted prices scratch file script
  unfolding judged
  file_accepted e = go (leb scratch_size scratch) (λ t. t) e
    where
      go : (b : Bool) → (T b → T (leb scratch_size scratch)) → cond b (judged_priced prices (prices_verdict 4 0 prices) file) (refuses 1 scratch_size) ≡ accepted script → FileAccepted prices scratch file script
      go true f h = by_prices (prices_verdict 4 0 prices) (f tt) refl h
      go false f h = no 1 scratch_size script h

-- one answer from every scratch that is long enough
pub same_from_any_scratch : SameFromAnyScratch
unfolding SameFromAnyScratch judged
same_from_any_scratch prices a b file h k = cond_true (leb scratch_size a) _ _ (le→leb scratch_size a h) ∙ sym (cond_true (leb scratch_size b) _ _ (le→leb scratch_size b k))

-- prices that pass question 16: n of them, each 1 to 1,000
pub prices_pass : (n i : ℕ) (l : List ℕ) → prices_verdict n i l ≡ passed → (length l ≡ n) × ((k : ℕ) → k < n → (1 ≤ get_or l k 0) × (get_or l k 0 ≤ 1_000))
unfolding prices_verdict
prices_pass zero i [] e = (refl, λ k h. absurd (omega arith))
prices_pass zero i (p ∷ ps) e = refused_not 16 i e
prices_pass (suc n) i [] e = refused_not 16 i e
prices_pass (suc n) i (p ∷ ps) e = go (leb 1 p && leb p 1_000) (λ t. t) (λ h. prices_pass n (suc i) ps h) e
  where
    Within : ℕ → Type 0
    Within p = (1 ≤ p) × (p ≤ 1_000)

    go : (b : Bool) → (T b → T (leb 1 p && leb p 1_000)) → (prices_verdict n (suc i) ps ≡ passed → (length ps ≡ n) × ((k : ℕ) → k < n → Within (get_or ps k 0)))
        → cond b (prices_verdict n (suc i) ps) (refused 16 i) ≡ passed → (length (p ∷ ps) ≡ suc n) × ((k : ℕ) → k < suc n → Within (get_or (p ∷ ps) k 0))
    go true f ih h =
        let (l, each) = ih h in
        let (a, b) = both (leb 1 p) (leb p 1_000) (f tt) in
        (ap suc l, at a b each)
      where
        at : T (leb 1 p) → T (leb p 1_000) → ((k : ℕ) → k < n → Within (get_or ps k 0)) → (k : ℕ) → k < suc n → Within (get_or (p ∷ ps) k 0)
        at a b each zero h = (leb→le 1 p a, leb→le p 1_000 b)
        at a b each (suc k) h = each k (omega arith)
    go false f ih h = refused_not 16 i h

pub fine_prices : (prices : List ℕ) → Priced prices → FinePrices (prices_of prices)
fine_prices prices e = record { arithmetic = at 0 (omega arith); cue = at 1 (omega arith); pick = at 2 (omega arith); test = at 3 (omega arith) }
  where
    at : (k : ℕ) → k < 4 → FinePrice (get_or prices k 0)
    at k h = let (a, b) = (prices_pass 4 0 prices e).1 k h in record { some = a; small = b }

-- so that a test has a price
pub test_priced : (prices : List ℕ) → Priced prices → 1 ≤ (prices_of prices).test
test_priced prices e = (fine_prices prices e).test.some

-- a store that passes question 15
abbrev Each : List Range → List ℤ → Type 0
Each rs xs = (w : ℕ) → w < length rs → ((start_env rs w).lo ≤ℤ store_of xs w) × (store_of xs w ≤ℤ (start_env rs w).hi)

pub store_passes : (i : ℕ) (rs : List Range) (xs : List ℤ) → store_verdict i rs xs ≡ passed → (length xs ≡ length rs) × Each rs xs
unfolding store_verdict
store_passes i [] [] e = (refl, λ w h. absurd (omega arith))
store_passes i [] (x ∷ xs) e = refused_not 15 i e
store_passes i (r ∷ rs) [] e = refused_not 15 i e
store_passes i (r ∷ rs) (x ∷ xs) e = go (le_z r.lo x && le_z x r.hi) (λ t. t) (λ h. store_passes (suc i) rs xs h) e
  where
    go : (b : Bool) → (T b → T (le_z r.lo x && le_z x r.hi)) → (store_verdict (suc i) rs xs ≡ passed → (length xs ≡ length rs) × Each rs xs)
        → cond b (store_verdict (suc i) rs xs) (refused 15 i) ≡ passed → (length (x ∷ xs) ≡ length (r ∷ rs)) × Each (r ∷ rs) (x ∷ xs)
    go true f ih h =
        let (l, each) = ih h in
        let (a, b) = both (le_z r.lo x) (le_z x r.hi) (f tt) in
        (ap suc l, at a b each)
      where
        at : T (le_z r.lo x) → T (le_z x r.hi) → Each rs xs → Each (r ∷ rs) (x ∷ xs)
        at a b each zero k = (le_z_yes a, le_z_yes b)
        at a b each (suc w) k = each w (omega arith)
    go false f ih h = refused_not 15 i h

pub store_in : (script : Script) (store : List ℤ) → store_verdict 0 script.ranges store ≡ passed → StoreIn script store
store_in script store e = let (l, each) = store_passes 0 script.ranges store e in record { whole = l; each = each }

pub demand3_file : Demand3File
unfolding Demand3File Demand3 run_script
demand3_file prices scratch file script e store h picks =
    let f = file_accepted prices scratch file script e in
    demand3 (prices_of prices) (test_priced prices f.priced) script f.script_accepted store (store_in script store h) picks _ (omega arith)

-- what a run call's reply says of an answer's ending, ticks and counts
abbrev pub Says : RunReply → Ending → ℕ → List LoopCount → Type 0
Says (ran a cs) ending ticks counts = (ending ≡ a.ending) × (ticks ≡ a.ticks) × (counts ≡ cs)
Says (RunReply.refuses q p) ending ticks counts = Unit {0}

-- demand 3 of what one call answers: of a file, and of a script that has been read
module _ (prices : List ℕ) (store : List ℤ) (picks : List ℕ) (allowance : ℕ) (ending : Ending) (ticks : ℕ) (counts : List LoopCount) where
  demand3_judged : (j : Judged) → ((script : Script) → j ≡ accepted script → Priced prices × Accepted (prices_of prices) script)
      → Says (run_reply prices j store picks allowance) ending ticks counts → Demand3Of prices j store picks allowance ending ticks counts
  unfolding Demand3Of Demand3 run_reply stored ran_script run_script
  demand3_judged j ok says script e h enough =
      let (a, b, c) = subst (λ r. Says r ending ticks counts) (ap (λ x. run_reply prices x store picks allowance) e ∙ ap (λ v. stored (prices_of prices) script v store picks allowance) h) says in
      let (q, fine) = ok script e in
      let kept = demand3 (prices_of prices) (test_priced prices q) script fine store (store_in script store h) picks allowance enough in
      record { unspent = subst Unspent (sym a) kept.unspent; few_ticks = omega (arith, b, kept.few_ticks); counted = subst (Pairwise Counts-fit _) (sym c) kept.counted; lined = kept.lined }

  pub demand3_call : (scratch : ℕ) (file : List ℕ) → Says (run_reply prices (judged prices scratch file) store picks allowance) ending ticks counts
      → Demand3Of prices (judged prices scratch file) store picks allowance ending ticks counts
  demand3_call scratch file = demand3_judged _ (λ script e. let f = file_accepted prices scratch file script e in (f.priced, f.script_accepted))

  pub demand3_script : Priced prices → (script : Script) → Legal script
      → let j : Judged = judged_by script (verdict (prices_of prices) (length script.rows) (start_env script.ranges) (tree_of script.rows)) in
      Says (run_reply prices j store picks allowance) ending ticks counts → Demand3Of prices j store picks allowance ending ticks counts
  demand3_script q script legal = demand3_judged _ (λ s e. (q, (judged_accepted (prices_of prices) script s _ legal refl e).1))
