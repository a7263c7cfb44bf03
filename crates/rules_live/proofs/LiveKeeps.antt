-- Demand 3 of a run that is cut off, and of a live run.
use mathlib.Core.Path.{◌≡◌, sym, ◌∙◌, subst}
use mathlib.Core.Bool.{Bool, true, false, not, cond}
use mathlib.Core.List.{List, [], ◌∷◌}
use Prim.Native.Nat.{ℕ, ◌+◌, ◌-◌, ◌≤◌, ◌<◌}
use native.Mathlib.Omega.{arith}
use lib.Dec.{T, leb, eqb, leb→le, nleb→lt}
use lib.ListN.{length}
use Rattle.rules.specs.Figures.{Line}
use Rattle.rules.specs.Scripts.{All, none, some, Pairwise, no_more, and_then, tree_of, report_ticks, report_lines}
use Rattle.rules.specs.Run.{Entry, Out, go, halt}
use Rattle.rules.specs.Answers.{Answer, answer, run_tree, own, sum_at, most_at}
use Rattle.rules.specs.Calls.{loop_rows, counts_at, run_script}
use Rattle.rules.specs.Claim.{Fits, Lined, Counts-fit, Demand3}
use Rattle.rules.proofs.Demand3.{demand3}
use Rattle.rules_frames.proofs.FramesAsAlone.{ticks_most}
use Rattle.rules_live.specs.Live.{after_steps}
use Rattle.rules_live.specs.LiveRuns.{WithinReport, RunIsTheRun, CutRunKeeps, LiveKeeps, allowance_at}
use Rattle.rules_live.proofs.CutRun.{Short, same, begun, skip, entries_of, Later, same_go, same_halt, was_spent, short_refl, later_run}
use Rattle.rules_live.proofs.Series.{run_is_the_run}

-- an entry that has begun is within the line of one with more turns
begun_fits : (l : Line) (e f : Entry) → e.row ≡ f.row → e.turns ≤ f.turns → (T e.tested → ⊥) → Fits l f → Fits l e
begun_fits l e f r n t h = record { here = r ∙ h.here; bounded = omega (arith, h.bounded); exactly = λ _ tested. absurd (t tested) }

-- the entries of a cut run have their lines
short_lined : (ls : List Line) {es fs : List Entry} → Short es fs → All (Lined ls) fs → All (Lined ls) es
short_lined ls Short.none h = none
short_lined ls (same s) (some f h) = some f (short_lined ls s h)
short_lined ls (begun {e = e} {f = f} r n t s) (some (l, m, k) h) = some (l, m, begun_fits l e f r n t k) (short_lined ls s h)
short_lined ls (skip s) (some f h) = short_lined ls s h

-- and no count is higher
short_counts : (p : ℕ) {es fs : List Entry} → Short es fs → (sum_at p es ≤ sum_at p fs) × (most_at p es ≤ most_at p fs)
unfolding sum_at most_at
short_counts p Short.none = (omega arith, omega arith)
short_counts p (same s) = let (a, b) = short_counts p s in (omega arith, omega arith)
short_counts p (begun {e = e} {f = f} r n t s) =
    let (a, b) = short_counts p s in
    let c : own p e.row e.turns ≤ own p f.row f.turns = rw r (by (eqb p f.row)) in
    (omega arith, omega arith)
  where
    by : (b : Bool) → cond b e.turns 0 ≤ cond b f.turns 0
    by true = n
    by false = omega arith
short_counts p (skip s) = let (a, b) = short_counts p s in (omega arith, omega arith)

pub short_fit : {es fs : List Entry} → Short es fs → (ls : List Line) (hs : List ℕ) → Pairwise Counts-fit ls (counts_at fs hs) → Pairwise Counts-fit ls (counts_at es hs)
unfolding counts_at
short_fit s [] [] h = no_more
short_fit {es = es} {fs = fs} s [] (p ∷ hs) h = elim h [ ]
short_fit {es = es} {fs = fs} s (l ∷ ls) [] h = elim h [ ]
short_fit {es} {fs} s (l ∷ ls) (p ∷ hs) (and_then f h) = and_then (fewer f) (short_fit s ls hs h)
  where
    fewer : Counts-fit l (record { row = p; all = sum_at p fs; most = most_at p fs }) → Counts-fit l (record { row = p; all = sum_at p es; most = most_at p es })
    fewer f = let (a, b) = short_counts p s in record { row = f.row; most = omega (arith, f.most); all = omega (arith, f.all) }

-- the entries of the run with d more ticks
short_answers : (d : ℕ) (R n : ℕ) (picks : List ℕ) {x y : Out} → Later d x y → Short (answer R n picks x).entries (answer R (n + d) picks y).entries
unfolding answer entries_of
short_answers d R n picks same_go = short_refl _
short_answers d R n picks same_halt = short_refl _
short_answers d R n picks (was_spent {o = o} h) = by o h
  where
    by : {es : List Entry} (o : Out) → Short es (entries_of o) → Short es (answer R (n + d) picks o).entries
    by (go t fs) h = h
    by (halt e j t fs) h = h

pub cut_run_keeps : CutRunKeeps
unfolding CutRunKeeps Demand3 run_script run_tree
cut_run_keeps π one script ok store inside picks n = by (leb n (report_ticks π script)) (leb→le n (report_ticks π script)) (nleb→lt n (report_ticks π script))
  where
    by : (b : Bool) → (T b → n ≤ report_ticks π script) → (T (not b) → report_ticks π script < n)
        → let a : Answer = run_script π script store picks n in WithinReport π script a.ticks (counts_at a.entries (loop_rows 0 script.rows)) a.entries
    by true f g =
        let e : n + (report_ticks π script - n) ≡ report_ticks π script = omega (arith, f tt) in
        let d = demand3 π one script ok store inside picks (report_ticks π script) (omega arith) in
        let s = subst (λ k. Short (run_script π script store picks n).entries (run_script π script store picks k).entries) e
        (short_answers (report_ticks π script - n) (length script.rows) n picks (later_run (report_ticks π script - n) π (tree_of script.rows) _)) in
        record {
          few_ticks = omega (arith, f tt, ticks_most π one script ok store inside picks n);
          counted = short_fit s (report_lines script) (loop_rows 0 script.rows) d.counted;
          lined = short_lined (report_lines script) s d.lined;
        }
    by false f g =
        let d = demand3 π one script ok store inside picks n (omega (arith, g tt)) in
        record { few_ticks = d.few_ticks; counted = d.counted; lined = d.lined }

pub live_keeps : LiveKeeps
unfolding LiveKeeps CutRunKeeps RunIsTheRun
live_keeps π script store accepts ls some-steps =
    let r = run_is_the_run π script store accepts ls some-steps in
    let l = after_steps π script store ls in
    let k = cut_run_keeps π accepts.prices.test.some script accepts.script_accepted store accepts.inside l.used (allowance_at (report_ticks π script) l.ticks l.stand) in
    record { few_ticks = omega (arith, r.ticks, k.few_ticks); counted = subst (Pairwise Counts-fit (report_lines script)) (sym r.counts) k.counted; lined = k.lined }
