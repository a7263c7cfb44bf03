-- The start of a live run: its state is 64 zeros. Assumes nothing.
use mathlib.Core.Path.{◌≡◌, refl, sym, ◌∙◌, ap, subst}
use mathlib.Core.Bool.{cond}
use mathlib.Core.List.{List, [], ◌∷◌, ◌++◌}
use Prim.Native.Nat.{ℕ, zero, suc, ◌+◌, ◌-◌, ◌*◌, ◌≤◌, min}
use native.Mathlib.Omega.{arith}
use borrow.Author.Tests.{eq-eqb, ne_eqb}
use lib.IntN.{ℤ}
use lib.ListN.{length, replicate}
use Rattle.rules.specs.declared.Prices.{Prices}
use Rattle.rules.specs.Verdicts.{Verdict}
use Rattle.rules.specs.Verdicts.{passed as Passed, refused as Refused}
use Rattle.rules.specs.Figures.{Line}
use Rattle.rules.specs.Scripts.{Script, report_ticks, report_lines}
use Rattle.rules.specs.Calls.{loop_rows, prices_of, store_verdict}
use Rattle.rules_machine.specs.RowMachine.{TurnCounts}
use Rattle.rules_live.specs.Live.{counts_at_stand, status_number}
use Rattle.rules_live.specs.LiveState.{place_row, phase_at, phase_number, carried_at, loop_numbers, state_numbers}
use Rattle.rules_live.specs.LiveCalls.{and_then, StartReply, started, size_verdict, start_state, started_by, start_reply, state_started}
use Rattle.std.specs.Prelude.{Ok, Err}
use Rattle.analysis.specs.Whole.{AnalysisAnswer}
use Rattle.live_state.proofs.StateLaws.{lines_long}
use Rattle.calls.specs.Held.{judged_script, FiguresFound}
use Rattle.calls.proofs.Judging.{judged_no, judged_yes}
use Rattle.calls_live.specs.Told.{StartedAs}

-- ---- zeros
least : (n : ℕ) → min 0 n ≡ 0
least n = omega arith

zeros_join : (a b : ℕ) → ◌++◌ {A = ℕ} (replicate a 0) (replicate b 0) ≡ replicate (a + b) 0
zeros_join zero b = ap (λ n. replicate n 0) (let w : b ≡ 0 + b = omega arith in w)
zeros_join (suc a) b = ap (λ (l : List ℕ). 0 ∷ l) (zeros_join a b) ∙ ap (λ n. replicate n 0) (let w : suc (a + b) ≡ suc a + b = omega arith in w)

-- no turn yet
abbrev none : TurnCounts
none = record { turns = λ _. 0; sum = λ _. 0; most = λ _. 0 }

no_turns : (ls : List Line) (hs : List ℕ) → (loop_numbers ls hs none ≡ replicate (length (loop_numbers ls hs none)) 0) × (length (loop_numbers ls hs none) ≤ 3 * length ls)
unfolding loop_numbers
no_turns [] hs = (refl, omega arith)
no_turns (l ∷ ls) [] = (refl, omega arith)
no_turns (l ∷ ls) (p ∷ hs) =
    let (a, b) = no_turns ls hs in
    let x : min 0 l.total ≡ 0 = omega arith in
    let y : min (min 0 l.turns) (min 0 l.total) ≡ 0 = omega arith in
    let z : min 0 (min (min 0 l.turns) (min 0 l.total)) ≡ 0 = omega arith in
    ((λ i. z i ∷ x i ∷ y i ∷ a i), omega arith)

pub starts_empty : (π : Prices) (script : Script) (store : List ℤ) → length (report_lines script) ≤ 16 → replicate 64 0 ≡ start_state π script store
unfolding start_state state_numbers counts_at_stand status_number place_row phase_at phase_number carried_at
starts_empty π script store few =
    let (a, b) = no_turns (report_lines script) (loop_rows 0 script.rows) in
    let n : ℕ = length (loop_numbers (report_lines script) (loop_rows 0 script.rows) none) in
    let e : n + (48 - n) ≡ 48 = omega arith in
    let x : min 0 (report_ticks π script) ≡ 0 = omega arith in
    let y : min 0 (min 0 (report_ticks π script)) ≡ 0 = omega arith in
    sym ((λ i. (0 ∷ 0 ∷ 0 ∷ 0 ∷ x i ∷ y i ∷ replicate 10 0) ++ (a i ++ replicate (48 - n) 0))
    ∙ ap (λ (l : List ℕ). (0 ∷ 0 ∷ 0 ∷ 0 ∷ 0 ∷ 0 ∷ replicate 10 0) ++ l) (zeros_join n (48 - n) ∙ ap (λ k. replicate k 0) e))

-- ---- its reply
module _ (prices : List ℕ) (script : Script) (count : ℕ) (s : AnalysisAnswer) (ls : List (List ℕ)) (found : FiguresFound prices script count s ls) (store : List ℤ) (ns : List ℕ) where
  abbrev reply : StartReply
  reply = start_reply prices (judged_script prices script) store ns

  no_start : {q p : ℕ} → reply ≡ StartReply.refuses q p → StartedAs reply ns ns (Err (record { number = q; place = p }))
  unfolding state_started
  no_start {q} {p} e = subst (λ x. StartedAs x ns ns (Err (record { number = q; place = p }))) (sym e) (record { told = (refl, refl); new_state = refl })

  -- refused by 8 to 13
  pub start_out : {q p : ℕ} → s.verdict ≡ Refused q p → StartedAs reply ns ns (Err (record { number = q; place = p }))
  unfolding start_reply
  start_out e = no_start (ap (λ j. start_reply prices j store ns) (judged_no prices script count s ls found e))

  module _ (z : s.verdict ≡ Passed) (v : Verdict) (stored : v ≡ store_verdict 0 script.ranges store) where
    by_store : (w : Verdict) → v ≡ w → reply ≡ started_by (prices_of prices) script store (and_then w (size_verdict ns))
    unfolding start_reply
    by_store w e = ap (λ j. start_reply prices j store ns) (judged_yes prices script count s ls found z) ∙ ap (λ x. started_by (prices_of prices) script store (and_then x (size_verdict ns))) (sym stored ∙ e)

    -- by 15
    pub stored_out : {q p : ℕ} → v ≡ Refused q p → StartedAs reply ns ns (Err (record { number = q; place = p }))
    unfolding started_by and_then
    stored_out {q} {p} e = no_start (by_store (Refused q p) e)

    module _ (yes : v ≡ Passed) where
      -- by 21
      pub size_out : (length ns ≡ 64 → ⊥) → StartedAs reply ns ns (Err (record { number = 21; place = 64 }))
      unfolding started_by and_then size_verdict
      size_out f = no_start (by_store Passed yes ∙ rw (ne_eqb (length ns) 64 f))

      pub starts : length ns ≡ 64 → (new : List ℕ) → new ≡ replicate 64 0 → StartedAs reply ns new (Ok (record { ticks = s.ticks; loops = s.loops }))
      unfolding started_by and_then size_verdict state_started
      starts l new e =
          let many : s.loops ≡ length (report_lines script) = sym (lines_long ls s.loops (omega (arith, found.figures.loops z, found.figures.long z))) ∙ ap length (found.figures.lines z) in
          let said : reply ≡ started (report_ticks (prices_of prices) script) (length (report_lines script)) (start_state (prices_of prices) script store)
          = by_store Passed yes ∙ ap (λ b. started_by (prices_of prices) script store (cond b Passed (Refused 21 64))) (eq-eqb (length ns) 64 l) in
          subst (λ x. StartedAs x ns new (Ok (record { ticks = s.ticks; loops = s.loops }))) (sym said) (record {
            told = (found.figures.ticks z, many);
            new_state = e ∙ starts_empty (prices_of prices) script store (omega (arith, found.figures.loops z));
          })
