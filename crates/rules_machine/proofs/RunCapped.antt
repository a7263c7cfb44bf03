-- A run of an accepted script with any allowance is its run with the smaller of the allowance and the report's ticks: these are enough.
use mathlib.Core.Path.{◌≡◌, ◌∙◌, ap}
use mathlib.Core.Bool.{Bool, true, false, not}
use mathlib.Core.List.{List}
use Prim.Native.Nat.{ℕ, ◌≤◌, ◌<◌, min}
use native.Mathlib.Omega.{arith}
use lib.Dec.{T, leb, leb→le, nleb→lt}
use lib.ListN.{length}
use lib.IntN.{ℤ}
use Rattle.rules.specs.declared.Prices.{Prices}
use Rattle.rules.specs.Scripts.{Script, Accepted, StoreIn, store_of, tree_of, report_ticks}
use Rattle.rules.specs.Answers.{Answer, run_tree}
use Rattle.rules.specs.Claim.{Demand3}
use Rattle.rules.proofs.Demand3.{demand3}
use Rattle.rules_machine.proofs.RunMore.{run_more}

pub run_capped : (π : Prices) → 1 ≤ π.test → (script : Script) → Accepted π script → (store : List ℤ) → StoreIn script store → (picks : List ℕ) (allowance : ℕ)
    → run_tree π (length script.rows) (tree_of script.rows) (store_of store) picks allowance
    ≡ run_tree π (length script.rows) (tree_of script.rows) (store_of store) picks (min allowance (report_ticks π script))
unfolding Demand3
run_capped π one script ok store inside picks allowance =
    by (leb allowance (report_ticks π script)) (leb→le allowance (report_ticks π script)) (nleb→lt allowance (report_ticks π script))
  where
    with_ticks_lem : ℕ → Answer
    with_ticks_lem n = run_tree π (length script.rows) (tree_of script.rows) (store_of store) picks n

    by : (b : Bool) → (T b → allowance ≤ report_ticks π script) → (T (not b) → report_ticks π script < allowance) → with_ticks_lem allowance ≡ with_ticks_lem (min allowance (report_ticks π script))
    by true f g = let h = f tt in let e : allowance ≡ min allowance (report_ticks π script) = omega arith in ap with_ticks_lem e
    by false f g =
        let h = g tt in
        let total = report_ticks π script in
        let m : total ≡ min allowance total = omega arith in
        let within = demand3 π one script ok store inside picks total (omega arith) in
        run_more π _ _ _ picks total allowance (omega arith) within.unspent ∙ ap with_ticks_lem m
