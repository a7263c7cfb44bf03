-- What the call of frames promises.
use Rattle.std.specs.Prelude.{◌≡◌, cond, List, ℕ, ◌≤◌, ◌<◌, ℤ, length, get_or}
use Rattle.rules.specs.Verdicts.{Verdict}
use Rattle.rules.specs.Verdicts.{passed as Passed, refused as Refused}
use Rattle.rules.specs.declared.Prices.{Prices}
use Rattle.rules.specs.Scripts.{Script, report_ticks}
use Rattle.rules.specs.Calls.{prices_of}
use Rattle.rules_frames.specs.Frames.{Progress, due, Lent, ScriptPart, parts_of, FramesReply, played, refuses, fitting, frames_reply}
use Rattle.rules_frames.specs.InTime.{alone, Accepts, FirstFrame, all_alone, Greatest}
use Rattle.calls_lists.specs.Parts.{part_of}
use Rattle.calls_scripts.specs.Held.{no_part, no_progress, refused_script}
use Rattle.calls_frames.specs.declared.Played.{Played}
use Rattle.calls_frames.specs.Answers.{FramesAnswer, no_answer, ToldPlayed, Framed}
use Rattle.loader.specs.Kept.{verdict_number, lent_verdict}

-- its answer by document 02's numbers: 0, or a refusal's number; the most ticks in one frame, or a refusal's place
abbrev pub frames_number : FramesReply → ℕ
frames_number (played rs m) = 0
frames_number (refuses q p) = q

-- that number of an answer of code
abbrev pub most_by : Verdict → ℕ → ℕ
most_by Passed m = m
most_by (Refused q p) m = p

-- that number of a reply
abbrev pub frames_first : FramesReply → ℕ
frames_first (played rs m) = m
frames_first (refuses q p) = p

-- a script that is refused, if 1 and 16 have yes
abbrev pub after_lent : Verdict → ℕ → ℕ
after_lent Passed script = script
after_lent (Refused q p) script = 0

-- which script a refusal is of, from 1: the first whose questions have no; 0 where no script is meant: for 20, 1 and 16, and for a call that is accepted
abbrev pub script_meant : List ℕ → ℕ → Lent → ℕ → ℕ
script_meant prices scratch l q = cond (fitting l q) (after_lent (lent_verdict prices scratch) (refused_script prices (parts_of l))) 0

-- a script's answer, and its store after the call: it is finished in the first frame in which running alone is not spent, by frame ceil(T/q), or the first if T is 0, "and its ending, store, ticks and
-- turns equal those of running alone with allowance T"
pub record OnTime (π : Prices) (q : ℕ) (script : Script) (h : ScriptPart) (x : Played) (store : List ℤ) : Type 0 where
  pub frame : FirstFrame π q script h.store h.picks x.frame
  pub by_due : x.frame ≤ due q (report_ticks π script)
  pub same : ToldPlayed x (alone π script h.store h.picks (report_ticks π script) x.frame)
  pub kept : store ≡ (alone π script h.store h.picks (report_ticks π script) x.frame).store

-- the call: its answer, also by its numbers, and the stores are document 02's; which script is refused; and if it is accepted, each script's own answer is in time, and `most` is the greatest sum, over the frames, of what the
-- runs alone take
pub record FramedCall (prices : List ℕ) (scratch : ℕ) (l : Lent) (q : ℕ) (new : List ℤ) (f : FramesAnswer) : Type 0 where
  pub answer : Framed (frames_reply prices scratch l q) l.stores new f
  pub number : verdict_number f.verdict ≡ frames_number (frames_reply prices scratch l q)
  pub first : most_by f.verdict f.most ≡ frames_first (frames_reply prices scratch l q)
  pub script : f.script ≡ script_meant prices scratch l q
  pub in_time : f.verdict ≡ Passed
      → (ps : List Progress)
      × Accepts prices scratch (parts_of l) ps
      × ((j : ℕ) → j < length l.file_lengths
      → OnTime (prices_of prices) q (get_or ps j no_progress).script (get_or (parts_of l) j no_part) (get_or f.scripts j no_answer) (part_of l.store_lengths j new))
      × Greatest (all_alone (prices_of prices) q (parts_of l) ps) f.most
