-- The questions of the two calls. Assumes nothing.
use mathlib.Core.Path.{◌≡◌, refl, sym, ◌∙◌, ap, subst}
use mathlib.Core.Bool.{Bool, true, false, cond}
use mathlib.Core.List.{List, [], ◌∷◌, map}
use Prim.Native.Nat.{ℕ, zero, suc, ◌≤◌, ◌<◌}
use native.Mathlib.Omega.{arith}
use borrow.Author.Tests.{le-leb, lt-leb, leb-true}
use lib.Dec.{leb}
use lib.IntN.{ℤ, pos, negsuc}
use lib.ListN.{length, take, replicate, length-take}
use Rattle.rules.specs.declared.Prices.{Prices}
use Rattle.rules.specs.Verdicts.{Verdict}
use Rattle.rules.specs.Verdicts.{passed as Passed, refused as Refused}
use Rattle.rules.specs.Bounds.{FinePrices}
use Rattle.rules.specs.Claim.{line_rows}
use Rattle.rules.specs.Figures.{Line}
use Rattle.rules.specs.Questions.{loops_verdict, verdict}
use Rattle.rules.specs.Ranges.{Range}
use Rattle.rules.specs.Values.{lowest, highest}
use Rattle.rules.specs.Scripts.{All, none, some, Script, Accepted, script_of, pair_ranges, start_env, tree_of, report_lines}
use Rattle.rules.specs.Calls.{prices_of, store_verdict}
use Rattle.rules.proofs.Accepted.{then_yes}
use Rattle.rules.proofs.Demand3File.{store_passes}
use Rattle.rules.proofs.Laws.{pairs_length}
use Rattle.rules.proofs.LinesAtHeads.{lines_at_heads}
use Rattle.rules_live.specs.Live.{StepLent, step_of}
use Rattle.rules_live.specs.LiveState.{state_stand, state_verdict}
use Rattle.rules_live.specs.LiveCalls.{and_then, whole_range, wide_verdict, ticks_verdict, step_verdict, StepReply, after_step, stepped_by, step_reply, store_stepped, state_stepped, cues_stepped}
use Rattle.analysis_ticks.specs.Capped.{capped}
use Rattle.std.specs.Prelude.{Result, Err}
use Rattle.rules.specs.declared.Refusal.{Refusal}
use Rattle.analysis.specs.Whole.{AnalysisAnswer}
use Rattle.analysis.specs.Fold.{capped_lines}
use Rattle.analysis.specs.Whole.{AnalysisOf}
use Rattle.analysis.proofs.Totals.{lines_true}
use Rattle.reader.specs.declared.Loaded.{Loaded}
use Rattle.run_machine.specs.Steps.{Runnable}
use Rattle.runner.proofs.Start.{runnable}
use Rattle.live_state.specs.Numbers.{StateAsked}
use Rattle.live_state.proofs.StateLaws.{lines_long}
use Rattle.calls.specs.Held.{read_script, Given, judged_script, FiguresFound}
use Rattle.calls.proofs.Tables.{found_by}
use Rattle.calls.proofs.Judging.{judged_no, judged_yes, is_accepted, ticks_few}
use Rattle.calls_live.specs.declared.Paced.{Paced}
use Rattle.calls_live.specs.declared.StepDone.{StepDone}
use Rattle.calls_live.specs.Told.{SteppedAs, StepReady, StepAsked}

-- ---- 15, 21 and 22 of a step
abbrev pub whole : List ℤ
whole = negsuc 999_999_999 ∷ pos 1_000_000_000 ∷ []

pub wide_ranges : (k n : ℕ) (rs : List Range) → length rs ≡ n → n ≤ k → take n (pair_ranges (replicate k whole)) ≡ map (λ r. whole_range) rs
unfolding pair_ranges lowest highest
wide_ranges k zero [] e h = refl
wide_ranges k zero (r ∷ rs) e h = absurd (omega arith)
wide_ranges k (suc n) [] e h = absurd (omega arith)
wide_ranges zero (suc n) (r ∷ rs) e h = absurd (omega arith)
wide_ranges (suc k) (suc n) (r ∷ rs) e h = ap {B = List Range} (λ l. whole_range ∷ l) (wide_ranges k n rs (omega arith) (omega arith))

module _ (π : Prices) (script : Script) (store : List ℤ) (ns : List ℕ) (q : ℕ) (n : ℕ) (vars : length script.ranges ≡ n) (few : n ≤ 16)
    (v : Verdict) (stored : v ≡ store_verdict 0 (take n (pair_ranges (replicate 16 whole))) store) where
  by_store : (w : Verdict) → v ≡ w → step_verdict π script store ns q ≡ and_then w (and_then (state_verdict π script ns) (ticks_verdict q))
  unfolding step_verdict wide_verdict
  by_store w e = ap (λ z. and_then z (and_then (state_verdict π script ns) (ticks_verdict q))) (ap (λ rs. store_verdict 0 rs store) (sym (wide_ranges 16 n script.ranges vars few)) ∙ sym stored ∙ e)

  pub store_no : {a b : ℕ} → v ≡ Refused a b → v ≡ step_verdict π script store ns q
  unfolding and_then
  store_no {a} {b} e = e ∙ sym (by_store (Refused a b) e)

  module _ (yes : v ≡ Passed) (u : Verdict) (stated : u ≡ state_verdict π script ns) where
    by_state : (w : Verdict) → u ≡ w → step_verdict π script store ns q ≡ and_then w (ticks_verdict q)
    unfolding and_then
    by_state w e = by_store Passed yes ∙ ap (λ z. and_then z (ticks_verdict q)) (sym stated ∙ e)

    pub state_no : {a b : ℕ} → u ≡ Refused a b → u ≡ step_verdict π script store ns q
    unfolding and_then
    state_no {a} {b} e = e ∙ sym (by_state (Refused a b) e)

    pub ticks_no : u ≡ Passed → 1_000_000 < q → Refused 22 0 ≡ step_verdict π script store ns q
    unfolding and_then ticks_verdict
    ticks_no e h = sym (by_state Passed e ∙ rw (lt-leb q 1_000_000 h))

    pub all_yes : u ≡ Passed → q ≤ 1_000_000 → Passed ≡ step_verdict π script store ns q
    unfolding and_then ticks_verdict
    all_yes e h = sym (by_state Passed e ∙ rw (le-leb q 1_000_000 h))

-- all of them have yes
then_both : (v w : Verdict) → and_then v w ≡ Passed → (v ≡ Passed) × (w ≡ Passed)
unfolding and_then
then_both Passed w e = (refl, e)
then_both (Refused q p) w e = absurd (let z : ◌≡◌ {A = ℕ} 0 1 = cc in omega arith)

ranges_many : (rs : List Range) → length (map (λ r. whole_range) rs) ≡ length rs
ranges_many [] = refl
ranges_many (r ∷ rs) = ap suc (ranges_many rs)

pub passes_all : (π : Prices) (script : Script) (store : List ℤ) (ns : List ℕ) (q : ℕ) → step_verdict π script store ns q ≡ Passed
    → (length store ≡ length script.ranges) × (state_verdict π script ns ≡ Passed) × (q ≤ 1_000_000)
unfolding step_verdict wide_verdict ticks_verdict
passes_all π script store ns q e =
    let (a, f) = then_both _ _ e in
    let (b, c) = then_both _ _ f in
    ((store_passes 0 (map (λ r. whole_range) script.ranges) store a).0 ∙ ranges_many script.ranges, b, by (leb q 1_000_000) (leb-true q 1_000_000) c)
  where
    by : (t : Bool) → (t ≡ true → q ≤ 1_000_000) → cond t Passed (Refused 22 0) ≡ Passed → q ≤ 1_000_000
    by true f z = f refl
    by false f z = absurd (let y : ◌≡◌ {A = ℕ} 0 1 = cc in omega arith)

-- ---- the script of a step
small_totals : (ls : List Line) → capped_lines ls ≡ ls → All (λ (l : Line). l.total ≤ 1_000_000_000_001) ls
unfolding capped_lines
small_totals [] e = none
small_totals (l ∷ ls) e =
    let a : capped l.total ≡ l.total = ap (λ (z : List Line). (first z).total) e in
    let b : l.total ≤ 1_000_000_000_001 = omega arith in
    some {x = l} b (small_totals ls (ap rest e))
  where
    first : List Line → Line
    first [] = l
    first (x ∷ xs) = x

    rest : List Line → List Line
    rest [] = []
    rest (x ∷ xs) = xs

line_rows_lem : (ls : List Line) → length (line_rows ls) ≡ length ls
unfolding line_rows
line_rows_lem [] = refl
line_rows_lem (l ∷ ls) = ap suc (line_rows_lem ls)

-- the prices as a list
abbrev list_of : Prices → List ℕ
list_of π = π.arithmetic ∷ π.cue ∷ π.pick ∷ π.test ∷ []

module _ {text t : List ℕ} {l : Loaded} {ranges : List (List ℤ)} (g : Given text t l ranges) (sixteen : length ranges ≡ 16) {π : Prices} (fine : FinePrices π)
    (s : AnalysisAnswer) (ls : List (List ℕ)) (found : AnalysisOf π (read_script text t l ranges) l.count s ls) (z : s.verdict ≡ Passed) where
  abbrev script : Script
  script = read_script text t l ranges

  figures : FiguresFound (list_of π) script l.count s ls
  figures = found_by text t l ranges g (list_of π) refl s ls found

  ok : Accepted π script
  ok = is_accepted (list_of π) script l.count s ls figures z g.legal

  asked : StateAsked π script t l.count s.ticks ls s.loops
  unfolding script_of
  asked = record {
    rows = record { text = text; rows = refl; size = g.size; table = g.table };
    ticks = found.ticks z;
    lines = found.lines z;
    few = found.loops z;
    long = found.long z;
  }

  vars_are : length script.ranges ≡ l.vars
  unfolding script_of
  vars_are = length-take l.vars (pair_ranges ranges) ∙ omega (arith, pairs_length ranges, g.few)

  module _ (q : ℕ) where
    abbrev by : Paced
    by = record { count = l.count; prices = π; q = q; ticks = s.ticks; loops = s.loops }

    pub step_asked : StepAsked script t by l.vars ls
    step_asked = record { asked = asked; vars_are = vars_are; few = g.few }

    pub step_ready : (store : List ℤ) (ns : List ℕ) → step_verdict π script store ns q ≡ Passed → StepReady script text t by ls store ns
    unfolding script_of verdict
    step_ready store ns e =
        let (many, state, least) = passes_all π script store ns q e in
        let (passes, _) = then_yes (loops_verdict (start_env script.ranges) (tree_of script.rows)) _ ok.loops in
        let few = ticks_few (list_of π) script l.count s ls figures z in
        record {
          asked = asked;
          rows = refl;
          runs = record { size = g.size; table = g.table; written = g.written; runs = subst (λ n. Runnable n script.rows) (sym many) (runnable script ok) };
          fine = fine;
          heads = ap length (sym (lines_at_heads script g.legal)) ∙ line_rows_lem (report_lines script) ∙ ap length (sym (found.lines z)) ∙ lines_long ls s.loops (omega (arith, found.loops z, found.long z));
          totals = small_totals (report_lines script) (lines_true π fine.test.some (tree_of script.rows) (start_env script.ranges) passes (omega (arith, few, found.ticks z)));
          few = few;
          passes = state;
          q = least;
        }

-- ---- its reply
pub no_step_as : {reply : StepReply} {q p : ℕ} {store : List ℤ} {ns cues : List ℕ} → reply ≡ StepReply.refuses q p → SteppedAs reply store store ns ns cues cues (Err (record { number = q; place = p }))
unfolding store_stepped state_stepped cues_stepped
no_step_as {q = q} {p} {store} {ns} {cues} e = subst (λ x. SteppedAs x store store ns ns cues cues (Err (record { number = q; place = p }))) (sym e) (record { told = (refl, refl); new_store = refl; new_state = refl; new_cues = refl })

module _ (prices : List ℕ) (script : Script) (count : ℕ) (s : AnalysisAnswer) (ls : List (List ℕ)) (found : FiguresFound prices script count s ls) (store : List ℤ) (ns : List ℕ) (l : StepLent) where
  pub judged_out : {q p : ℕ} → s.verdict ≡ Refused q p → step_reply prices (judged_script prices script) store ns l ≡ StepReply.refuses q p
  unfolding step_reply
  judged_out e = ap (λ j. step_reply prices j store ns l) (judged_no prices script count s ls found e)

  module _ (z : s.verdict ≡ Passed) (π : Prices) (e : π ≡ prices_of prices) (v : Verdict) (asked : v ≡ step_verdict π script store ns l.q) where
    by_verdict : (w : Verdict) → v ≡ w → step_reply prices (judged_script prices script) store ns l ≡ stepped_by π script store ns l w
    unfolding step_reply
    by_verdict w f =
        ap (λ j. step_reply prices j store ns l) (judged_yes prices script count s ls found z)
        ∙ (λ i. stepped_by (sym e i) script store ns l (step_verdict (sym e i) script store ns l.q)) ∙ ap (stepped_by π script store ns l) (sym asked ∙ f)

    pub asked_out : {q p : ℕ} → v ≡ Refused q p → step_reply prices (judged_script prices script) store ns l ≡ StepReply.refuses q p
    unfolding stepped_by
    asked_out {q} {p} f = by_verdict (Refused q p) f

    pub asked_in : v ≡ Passed → step_reply prices (judged_script prices script) store ns l ≡ after_step π script store ns (step_of π script l (state_stand script store ns))
    unfolding stepped_by
    asked_in f = by_verdict Passed f

pub step_as : {reply other : StepReply} {store store' : List ℤ} {ns ns' cues cues' : List ℕ} {r : Result StepDone Refusal} → reply ≡ other → SteppedAs other store store' ns ns' cues cues' r → SteppedAs reply store store' ns ns' cues cues' r
step_as {store = store} {store'} {ns} {ns'} {cues} {cues'} {r} e h = subst (λ x. SteppedAs x store store' ns ns' cues cues' r) (sym e) h
