-- The run call's answer. Assumes nothing.
use mathlib.Core.Path.{◌≡◌, refl, sym, ◌∙◌, ap, subst}
use mathlib.Core.List.{List}
use Prim.Native.Nat.{ℕ, min}
use lib.IntN.{ℤ}
use lib.ListN.{length, take}
use Rattle.rules.specs.declared.Prices.{Prices}
use Rattle.rules.specs.Verdicts.{Verdict}
use Rattle.rules.specs.Verdicts.{passed as Passed, refused as Refused}
use Rattle.rules.specs.Scripts.{Script, Legal}
use Rattle.rules.specs.Answers.{Answer}
use Rattle.rules.specs.Calls.{prices_of, Priced, RunReply, ran, refuses, store_verdict, loop_rows, counts_at, run_script, ran_script, stored, run_reply, store_after}
use Rattle.rules.proofs.Demand3File.{Says, fine_prices, store_in}
use Rattle.rules_machine.proofs.RunCapped.{run_capped}
use Rattle.run_machine.specs.Steps.{Runnable}
use Rattle.runner.proofs.Start.{runnable}
use Rattle.std.specs.Prelude.{Result, Ok, Err}
use Rattle.rules.specs.declared.Refusal.{Refusal}
use Rattle.analysis.specs.Whole.{AnalysisAnswer}
use Rattle.calls.specs.declared.Outcome.{Outcome}
use Rattle.calls.specs.Held.{judged_script, FiguresFound}
use Rattle.calls.specs.Told.{ToldNo, Told, ending_in, ticks_in, counts_in, RanAs, ran_rows}
use Rattle.calls.proofs.Judging.{judged_no, judged_yes, is_accepted}

-- an answer that tells the reply has its ending, ticks and counts
pub told_says : (o : Result Outcome Refusal) (reply : RunReply) → Told o reply → Says reply (ending_in o) (ticks_in o) (counts_in o)
told_says (Ok o) (ran a cs) t = (t.ending, t.ticks, t.counts)
told_says (Ok o) (refuses q p) t = tt
told_says (Err r) (ran a cs) t = absurd t
told_says (Err r) (refuses q p) t = tt

-- a refusal leaves the store
refused_as : {reply : RunReply} {q p : ℕ} {store : List ℤ} → reply ≡ refuses q p → RanAs reply store store (Err (record { number = q; place = p }))
unfolding store_after
refused_as {reply} {q} {p} {store} e = subst (λ r. RanAs r store store (Err (record { number = q; place = p }))) (sym e) (record { told = record { number = refl; place = refl }; store = refl })

module _ (prices : List ℕ) (script : Script) (count : ℕ) (s : AnalysisAnswer) (ls : List (List ℕ)) (found : FiguresFound prices script count s ls) (store : List ℤ) (picks : List ℕ) (allowance : ℕ) where
  -- refused by 8 to 13
  pub ran_no : {n p : ℕ} → s.verdict ≡ Refused n p → RanAs (run_reply prices (judged_script prices script) store picks allowance) store store (Err (record { number = n; place = p }))
  unfolding run_reply
  ran_no h = refused_as (ap (λ j. run_reply prices j store picks allowance) (judged_no prices script count s ls found h))

  module _ (z : s.verdict ≡ Passed) (v : Verdict) (asked : v ≡ store_verdict 0 script.ranges store) where
    replied : (w : Verdict) → v ≡ w → run_reply prices (judged_script prices script) store picks allowance ≡ stored (prices_of prices) script w store picks allowance
    unfolding run_reply
    replied w e = ap (λ j. run_reply prices j store picks allowance) (judged_yes prices script count s ls found z) ∙ ap (λ x. stored (prices_of prices) script x store picks allowance) (sym asked ∙ e)

    -- refused by 15
    pub ran_out : (q p : ℕ) → v ≡ Refused q p → RanAs (run_reply prices (judged_script prices script) store picks allowance) store store (Err (record { number = q; place = p }))
    unfolding stored
    ran_out q p e = refused_as (replied (Refused q p) e)

    module _ (y : v ≡ Passed) (legal : Legal script) where
      passes : store_verdict 0 script.ranges store ≡ Passed
      passes = sym asked ∙ y

      pub runs_from : Runnable (length store) script.rows
      runs_from = subst (λ k. Runnable k script.rows) (sym (store_in script store passes).whole) (runnable script (is_accepted prices script count s ls found z legal))

      -- the run with the smaller of the allowance and the report's ticks is the run
      same_run : Priced prices → run_script (prices_of prices) script store picks allowance ≡ run_script (prices_of prices) script store picks (min allowance s.ticks)
      unfolding run_script
      same_run q =
          run_capped (prices_of prices) (fine_prices prices q).test.some script (is_accepted prices script count s ls found z legal) store (store_in script store passes) picks allowance
          ∙ ap (λ t. run_script (prices_of prices) script store picks (min allowance t)) (sym (found.figures.ticks z))

      pub replied_run : Priced prices → run_reply prices (judged_script prices script) store picks allowance ≡ ran_script (prices_of prices) script store picks (min allowance s.ticks)
      unfolding stored ran_script
      replied_run q = replied Passed y ∙ ap (λ (a : Answer). ran a (counts_at a.entries (loop_rows 0 script.rows))) (same_run q)

-- the run of the rows is the answer
pub ran_all : (prices : List ℕ) → Priced prices → (π : Prices) → π ≡ prices_of prices → (script : Script) (count : ℕ) (s : AnalysisAnswer) (ls : List (List ℕ)) → FiguresFound prices script count s ls
    → (store : List ℤ) (picks : List ℕ) (allowance : ℕ) → s.verdict ≡ Passed → (v : Verdict) → v ≡ store_verdict 0 script.ranges store → v ≡ Passed → Legal script
    → (least : ℕ) → least ≡ min allowance s.ticks → (new : List ℤ) (o : Result Outcome Refusal)
    → RanAs (ran_rows π script.rows store picks least) store new o → RanAs (run_reply prices (judged_script prices script) store picks allowance) store new o
unfolding ran_script run_script
ran_all prices q π f script count s ls found store picks allowance z v asked y legal least e new o =
    subst (λ r. RanAs r store new o)
    ((λ j. ran_rows (f j) script.rows store picks (e j)) ∙ sym (replied_run prices script count s ls found store picks allowance z v asked y legal q))
