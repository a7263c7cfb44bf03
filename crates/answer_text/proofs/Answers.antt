-- What a run call's outcome says is what its reply says. Assumes nothing.
use mathlib.Core.Path.{◌≡◌, refl, ◌∙◌, ap}
use mathlib.Core.List.{List, [], ◌∷◌}
use Prim.Native.Nat.{ℕ, ◌≤◌}
use native.Mathlib.Omega.{arith}
use lib.IntN.{ℤ}
use lib.ListN.{length}
use Rattle.rules.specs.Run.{Entry}
use Rattle.rules.specs.Verdicts.{Verdict}
use Rattle.rules.specs.Verdicts.{passed, refused}
use Rattle.rules.specs.Scripts.{Script}
use Rattle.rules.proofs.Demand3File.{file_accepted}
use Rattle.rules.proofs.LinesAtHeads.{heads_few}
use Rattle.rules.specs.Calls.{Judged, accepted, prices_of, judged, store_verdict, loop_rows, counts_at, RunReply, ran, refuses, run_script, ran_script, stored, run_reply, store_after}
use Rattle.rules.specs.declared.Refusal.{Refusal}
use Rattle.std.specs.Prelude.{Result, Ok, Err, IfOk}
use Rattle.rules_season.specs.Season.{refusal_text}
use Rattle.calls.specs.declared.Outcome.{Outcome}
use Rattle.calls.specs.Told.{Told, RanAs}
use Rattle.answer_text.specs.Texts.{run_text, reply_text, outcome_text}

pub told_text : (reply : RunReply) (old new : List ℤ) (o : Result Outcome Refusal) → RanAs reply old new o → outcome_text o new ≡ reply_text reply old
unfolding outcome_text reply_text store_after
told_text (ran a cs) old new (Ok o) h =
    let t = h.told in
    λ k. run_text (t.ending k) (t.row k) (t.ticks k) (t.used k) (h.store k) (t.counts k)
told_text (ran a cs) old new (Err r) h = absurd h.told
told_text (refuses q p) old new (Ok o) h = absurd h.told
told_text (refuses q p) old new (Err r) h = λ k. refusal_text (h.told.number k) (h.told.place k)

-- a run has as many counts as the file has loops, 16 at most
counts_long : (es : List Entry) (hs : List ℕ) → length (counts_at es hs) ≡ length hs
unfolding counts_at
counts_long es [] = refl
counts_long es (p ∷ hs) = let e = counts_long es hs in omega arith

pub told_loops : (prices : List ℕ) (n : ℕ) (file : List ℕ) (store : List ℤ) (picks : List ℕ) (allowance : ℕ) (o : Result Outcome Refusal)
    → Told o (run_reply prices (judged prices n file) store picks allowance) → IfOk o (λ (u : Outcome). u.loops ≤ 16)
unfolding run_reply stored ran_script
told_loops prices n file store picks allowance (Err r) t = tt
told_loops prices n file store picks allowance (Ok o) t = go (judged prices n file) refl t
  where
    by : (script : Script) → judged prices n file ≡ accepted script → (v : Verdict) → Told (Ok o) (stored (prices_of prices) script v store picks allowance) → o.loops ≤ 16
    by script e passed t = omega (arith, t.loops, counts_long (run_script (prices_of prices) script store picks allowance).entries (loop_rows 0 script.rows), heads_few script.rows _ (file_accepted prices n file script e).script_accepted.legal.closed.1)
    by script e (refused q p) t = absurd t

    go : (j : Judged) → judged prices n file ≡ j → Told (Ok o) (run_reply prices j store picks allowance) → o.loops ≤ 16
    go (accepted script) e t = by script e (store_verdict 0 script.ranges store) t
    go (Judged.refuses q p) e t = absurd t
