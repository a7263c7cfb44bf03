-- What the analysis' figures say of the two calls. Assumes nothing.
use mathlib.Core.Path.{◌≡◌, sym, ◌∙◌, ap}
use mathlib.Core.List.{List}
use Prim.Native.Nat.{ℕ, ◌≤◌}
use native.Mathlib.Omega.{arith}
use lib.Dec.{leb, leb→le}
use lib.ListN.{length}
use Rattle.rules.specs.Verdicts.{Verdict}
use Rattle.rules.specs.Verdicts.{passed}
use Rattle.rules.specs.Questions.{tick_limit, verdict}
use Rattle.rules.specs.Scripts.{Script, start_env, tree_of, report_ticks, Legal, Accepted}
use Rattle.rules.specs.Report.{report_text, script_report}
use Rattle.analysis_lines.specs.Coded.{first_lines}
use Rattle.rules.specs.Calls.{accepted, refuses, judged_by, prices_of, buffer_reply, written, reply_of, buffer_of}
use Rattle.rules.proofs.Accepted.{then_yes, asked_yes}
use Rattle.std.specs.Prelude.{Result, Ok, Err}
use Rattle.rules.specs.declared.Refusal.{Refusal}
use Rattle.rules.specs.Replies.{reply_by}
use Rattle.analysis.specs.Whole.{AnalysisAnswer}
use Rattle.calls.specs.Held.{judged_script, FiguresFound}
use Rattle.calls.specs.Told.{judged_ticks, MeasuredAs}

module _ (prices : List ℕ) (script : Script) (count : ℕ) (s : AnalysisAnswer) (ls : List (List ℕ)) (found : FiguresFound prices script count s ls) where
  asked : verdict (prices_of prices) (length script.rows) (start_env script.ranges) (tree_of script.rows) ≡ s.verdict
  asked = ap (λ n. verdict (prices_of prices) n (start_env script.ranges) (tree_of script.rows)) found.long ∙ found.figures.verdict

  pub judged_no : {n p : ℕ} → s.verdict ≡ Verdict.refused n p → judged_script prices script ≡ refuses n p
  unfolding judged_by
  judged_no h = ap (judged_by script) (asked ∙ h)

  module _ (z : s.verdict ≡ passed) where
    passes : verdict (prices_of prices) (length script.rows) (start_env script.ranges) (tree_of script.rows) ≡ passed
    passes = asked ∙ z

    pub judged_yes : judged_script prices script ≡ accepted script
    unfolding judged_by
    judged_yes = ap (judged_by script) passes

    pub is_accepted : Legal script → Accepted (prices_of prices) script
    is_accepted legal = record { legal = legal; loops = passes }

    -- question 13: the ticks are no more than the limit
    pub ticks_few : s.ticks ≤ 1_000_000_000_000
    unfolding verdict tick_limit
    ticks_few =
        let (_, a) = then_yes _ _ passes in
        let (_, b) = then_yes _ _ a in
        let (t, _) = asked_yes 13 _ (leb (report_ticks (prices_of prices) script) 1_000_000_000_000) _ b in
        omega (arith, leb→le (report_ticks (prices_of prices) script) 1_000_000_000_000 t, found.figures.ticks z)

    text_is : report_text count (first_lines ls s.loops) s.ticks ≡ script_report (prices_of prices) script
    unfolding script_report
    text_is = λ j. report_text (sym found.long j) (found.figures.lines z j) (found.figures.ticks z j)

    -- the report written
    pub reported : (r : Result ℕ Refusal) (old new : List ℕ)
        → (reply_by r ≡ buffer_reply (report_text count (first_lines ls s.loops) s.ticks) (length old)) × (new ≡ written (report_text count (first_lines ls s.loops) s.ticks) old)
        → MeasuredAs prices (judged_script prices script) old new (record { reply = r; ticks = s.ticks })
    unfolding reply_of buffer_of
    reported r old new (a, b) = record {
      reply = a ∙ ap (λ t. buffer_reply t (length old)) text_is ∙ ap (λ j. reply_of prices j (length old)) (sym judged_yes);
      buffer = b ∙ ap (λ t. written t old) text_is ∙ ap (λ j. buffer_of prices j old) (sym judged_yes);
      ticks = found.figures.ticks z ∙ ap (judged_ticks prices) (sym judged_yes);
      few = ticks_few;
    }

  -- a refusal leaves the buffer
  pub not_reported : {n p : ℕ} → s.verdict ≡ Verdict.refused n p → (old : List ℕ) → MeasuredAs prices (judged_script prices script) old old (record { reply = Err (record { number = n; place = p }); ticks = 0 })
  unfolding reply_of buffer_of
  not_reported h old = record {
    reply = ap (λ j. reply_of prices j (length old)) (sym (judged_no h));
    buffer = ap (λ j. buffer_of prices j old) (sym (judged_no h));
    ticks = ap (judged_ticks prices) (sym (judged_no h));
    few = omega arith;
  }
