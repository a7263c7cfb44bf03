-- From a loaded file to the judgement of the call. Assumes nothing.
use mathlib.Core.Path.{◌≡◌, refl, ◌∙◌, ap}
use mathlib.Core.Bool.{Bool, true, false, cond}
use mathlib.Core.List.{List, ◌++◌}
use Prim.Native.Nat.{ℕ, ◌≤◌}
use native.Mathlib.Omega.{arith}
use lib.IntN.{ℤ}
use lib.ListN.{length, drop}
use lib.Seq.{drop_at}
use lib.Dec.{T, leb, leb→le}
use Rattle.rules.specs.Verdicts.{passed as Passed, refused as Refused}
use Rattle.rules.specs.Replies.{Reply}
use Rattle.rules.specs.File.{file_script}
use Rattle.rules.specs.Calls.{Judged, ending_number, refuses, prices_of, prices_verdict, Priced, judged_priced, scratch_size, judged_file, judged, reply_of, buffer_of, RunReply, ran, run_reply, store_after}
use Rattle.rules.proofs.Demand3File.{demand3_call}
use Rattle.std.specs.Prelude.{Result, Ok, Err}
use Rattle.rules.specs.declared.Refusal.{Refusal}
use Rattle.rules.specs.Replies.{reply_by}
use Rattle.calls.specs.Told.{MeasuredAs, Told, ending_in, ticks_in, counts_in, RanAs}
use Rattle.rules_live.specs.Live.{StepLent}
use Rattle.rules_live.specs.LiveCalls.{start_reply, state_started, step_reply, store_stepped, state_stepped, cues_stepped}
use Rattle.calls_live.specs.declared.Started.{Started}
use Rattle.calls_live.specs.declared.StepDone.{StepDone}
use Rattle.calls_live.specs.Told.{StartedAs, SteppedAs}
use Rattle.calls.specs.declared.Measured.{Measured}
use Rattle.calls.specs.declared.Outcome.{Outcome}
use Rattle.calls.proofs.Runs.{told_says}
use Rattle.calls.specs.declared.figures.Figures.{Figures}
use Rattle.calls.specs.Figures.{FiguresAs}
use Rattle.loader.specs.Kept.{reply_number, reply_place, answer_number, first_of, run_number, run_first, lent_verdict, Reported, KeptCall, ScratchKept}

-- the questions 1 and 16
module _ (prices : List ℕ) (scratch : ℕ) where
  judged_lent : (file : List ℕ) → judged prices scratch file ≡ judged_priced prices (lent_verdict prices scratch) file
  unfolding judged judged_priced
  judged_lent file = by (leb scratch_size scratch)
    where
      by : (b : Bool) → cond b (judged_priced prices (prices_verdict 4 0 prices) file) (refuses 1 scratch_size) ≡ judged_priced prices (cond b (prices_verdict 4 0 prices) (Refused 1 scratch_size)) file
      by true = refl
      by false = refl

  -- refused
  pub lent_no : (file : List ℕ) {q p : ℕ} → lent_verdict prices scratch ≡ Refused q p → judged prices scratch file ≡ refuses q p
  unfolding judged_priced
  lent_no file e = judged_lent file ∙ ap (λ v. judged_priced prices v file) e

  -- passed: the file's questions come next
  module _ (e : lent_verdict prices scratch ≡ Passed) where
    pub lent_yes : (file : List ℕ) → judged prices scratch file ≡ judged_file (prices_of prices) (file_script file)
    unfolding judged_priced
    lent_yes file = judged_lent file ∙ ap (λ v. judged_priced prices v file) e

    pub lent_room : scratch_size ≤ scratch
    lent_room = by (leb scratch_size scratch) (leb→le scratch_size scratch) e
      where
        by : (b : Bool) → (T b → scratch_size ≤ scratch) → cond b (prices_verdict 4 0 prices) (Refused 1 scratch_size) ≡ Passed → scratch_size ≤ scratch
        by true f e = f tt
        by false f e = absurd (let z : ◌≡◌ {A = ℕ} 0 1 = cc in omega arith)

    pub lent_priced : Priced prices
    lent_priced = by (leb scratch_size scratch) e
      where
        by : (b : Bool) → cond b (prices_verdict 4 0 prices) (Refused 1 scratch_size) ≡ Passed → Priced prices
        by true e = e
        by false e = absurd (let z : ◌≡◌ {A = ℕ} 0 1 = cc in omega arith)

-- the scratch with its front written over, and as it was
pub scratch_kept : (prices front old : List ℕ) → length front ≡ scratch_size → lent_verdict prices (length old) ≡ Passed → ScratchKept old (front ++ drop scratch_size old)
scratch_kept prices front old long e = record { past = drop_at front (drop scratch_size old) scratch_size long; refused = λ l. absurd (omega (arith, lent_room prices (length old) e)) }

pub scratch_same : {old : List ℕ} → ScratchKept old old
scratch_same = record { past = refl; refused = λ _. refl }

-- a report that is refused, one that is judged as another is, and one of a file that is judged as its script is
module _ {prices : List ℕ} {j : Judged} {old : List ℕ} where
  pub reported_no : {q p : ℕ} → j ≡ refuses q p → Reported prices j old old (Reply.Refused q p)
  unfolding reply_of buffer_of
  reported_no e = rw e (record { answer = refl; number = refl; place = refl; buffer = refl })

  pub reported_same : {k : Judged} {new : List ℕ} {r : Reply} → j ≡ k → Reported prices k old new r → Reported prices j old new r
  reported_same e h = rw e h

  pub reported_as : {k : Judged} {new : List ℕ} {m : Measured} → j ≡ k → MeasuredAs prices k old new m → Reported prices j old new (reply_by m.reply)
  reported_as e h = rw e (record { answer = h.reply; number = ap reply_number h.reply; place = ap reply_place h.reply; buffer = h.buffer })

-- figures that are refused, and those of a file that is judged as its script is
module _ (prices : List ℕ) {j : Judged} (new : List (List ℕ)) where
  pub figured_no : {q p : ℕ} → j ≡ refuses q p → FiguresAs prices j new (Err (record { number = q; place = p }))
  figured_no e = rw e (refl, refl)

  pub figured_same : {k : Judged} (r : Result Figures Refusal) → j ≡ k → FiguresAs prices k new r → FiguresAs prices j new r
  figured_same r e h = rw e h

-- the numbers of an answer that tells a reply
told_number : (o : Result Outcome Refusal) (reply : RunReply) → Told o reply → answer_number o ≡ run_number reply
told_number (Ok o) (ran a cs) t = refl
told_number (Ok o) (RunReply.refuses q p) t = absurd t
told_number (Err r) (ran a cs) t = absurd t
told_number (Err r) (RunReply.refuses q p) t = t.number

told_first : (o : Result Outcome Refusal) (reply : RunReply) → Told o reply → first_of o ≡ run_first reply
told_first (Ok o) (ran a cs) t = ap ending_number t.ending
told_first (Ok o) (RunReply.refuses q p) t = absurd t
told_first (Err r) (ran a cs) t = absurd t
told_first (Err r) (RunReply.refuses q p) t = t.place

-- a run that is refused, and one that is judged as another is
module _ (prices : List ℕ) {store : List ℤ} (picks : List ℕ) (allowance : ℕ) {j : Judged} where
  pub ran_no : {q p : ℕ} → j ≡ refuses q p → RanAs (run_reply prices j store picks allowance) store store (Err (record { number = q; place = p }))
  unfolding run_reply store_after
  ran_no e = rw e (record { told = record { number = refl; place = refl }; store = refl })

  pub ran_same : {k : Judged} {new : List ℤ} {o : Result Outcome Refusal} → j ≡ k → RanAs (run_reply prices k store picks allowance) store new o → RanAs (run_reply prices j store picks allowance) store new o
  ran_same e r = rw e r

-- its numbers, and demand 3
pub kept : (prices : List ℕ) (scratch : ℕ) (file : List ℕ) {store new : List ℤ} (picks : List ℕ) (allowance : ℕ) {o : Result Outcome Refusal}
    → RanAs (run_reply prices (judged prices scratch file) store picks allowance) store new o → KeptCall prices (judged prices scratch file) store new picks allowance o
kept prices scratch file {store} picks allowance {o} r =
    let reply = run_reply prices (judged prices scratch file) store picks allowance in
    record {
      answer = r;
      number = told_number o reply r.told;
      first = told_first o reply r.told;
      demand3 = demand3_call prices store picks allowance (ending_in o) (ticks_in o) (counts_in o) scratch file (told_says o reply r.told);
    }

-- a start and a step that are refused, and those that are judged as another is
module _ (prices : List ℕ) (store : List ℤ) (ns : List ℕ) {j : Judged} where
  pub started_no : {q p : ℕ} → j ≡ refuses q p → StartedAs (start_reply prices j store ns) ns ns (Err (record { number = q; place = p }))
  unfolding start_reply state_started
  started_no e = rw e (record { told = (refl, refl); new_state = refl })

  pub started_same : {k : Judged} {new : List ℕ} {r : Result Started Refusal} → j ≡ k → StartedAs (start_reply prices k store ns) ns new r → StartedAs (start_reply prices j store ns) ns new r
  started_same e h = rw e h

  pub stepped_no : (l : StepLent) {cues : List ℕ} {q p : ℕ} → j ≡ refuses q p → SteppedAs (step_reply prices j store ns l) store store ns ns cues cues (Err (record { number = q; place = p }))
  unfolding step_reply store_stepped state_stepped cues_stepped
  stepped_no l e = rw e (record { told = (refl, refl); new_store = refl; new_state = refl; new_cues = refl })

  pub stepped_same : (l : StepLent) {k : Judged} {new : List ℤ} {ns' cues cues' : List ℕ} {r : Result StepDone Refusal} → j ≡ k → SteppedAs (step_reply prices k store ns l) store new ns ns' cues cues' r
      → SteppedAs (step_reply prices j store ns l) store new ns ns' cues cues' r
  stepped_same l e h = rw e h
