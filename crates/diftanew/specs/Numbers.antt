-- The answers of the calls as numbers, as the header lays them out.
use Rattle.std.specs.Prelude.{◌≡◌, List, [], ◌∷◌, ◌++◌, map, ℕ, zero, suc, ◌+◌, ◌-◌, ◌*◌, ◌<◌, min, ℤ, Result, Ok, Err, length, get_or, set, replicate}
use Rattle.rules.specs.Replies.{Reply}
use Rattle.rules.specs.Verdicts.{Verdict}
use Rattle.rules.specs.Verdicts.{passed as Passed, refused as Refused}
use Rattle.rules.specs.declared.LoopCount.{LoopCount}
use Rattle.rules.specs.declared.Refusal.{Refusal}
use Rattle.rules.specs.Calls.{Judged, accepted, refuses, prices_of, ending_number}
use Rattle.rules.specs.Scripts.{report_ticks, report_lines}
use Rattle.rules_frames.specs.Frames.{Lent}
use Rattle.calls.specs.declared.Outcome.{Outcome}
use Rattle.run_loops.specs.Loops.{no_count}
use Rattle.rules_live.specs.LiveCalls.{StartReply, StepReply}
use Rattle.calls.specs.Figures.{line_numbers}
use Rattle.calls_live.specs.declared.Started.{Started}
use Rattle.calls_live.specs.declared.StepDone.{StepDone}
use Rattle.calls_live.specs.Told.{StartedAs, SteppedAs}
use Rattle.calls_frames.specs.declared.Played.{Played}
use Rattle.calls_frames.specs.Answers.{FramesAnswer}
use Rattle.loader.specs.Framing.{most_by, FramedCall}
use Rattle.loader.specs.Kept.{reply_number, reply_place, verdict_number, answer_number, Reported, KeptCall}

-- a report call in numbers
pub record Reported-in-numbers (prices : List ℕ) (judgement : Judged) (old new : List ℕ) (r at : ℕ) : Type 0 where
  pub reply : Reply
  pub reported : Reported prices judgement old new reply
  pub number : r ≡ reply_number reply
  pub place : at ≡ reply_place reply

-- the first n lines have seven numbers each
abbrev pub Sevens : ℕ → List (List ℕ) → Type 0
Sevens n lines = (k : ℕ) → k < n → length (get_or lines k []) ≡ 7

-- lists of numbers, one after the other
unfoldable pub in_a_row : List (List ℕ) → List ℕ
in_a_row [] = []
in_a_row (x ∷ xs) = x ++ in_a_row xs

-- numbers, and zeros behind them, n in all
abbrev pub filled : ℕ → List ℕ → List ℕ
filled n numbers = numbers ++ replicate (n - length numbers) 0

-- what a report says: its ticks, how many variables and loops there are, and each loop's line; of a refused file the place
abbrev pub figures_told : List ℕ → Judged → List ℕ
figures_told prices (accepted script) =
    report_ticks (prices_of prices) script ∷ length script.ranges ∷ length (report_lines script) ∷ in_a_row (map line_numbers (report_lines script))
figures_told prices (refuses q p) = p ∷ []

-- 0, or a refusal's number
abbrev pub judged_number : Judged → ℕ
judged_number (accepted script) = 0
judged_number (refuses q p) = q

-- a call of figures in numbers
pub record Figured-in-numbers (prices : List ℕ) (judgement : Judged) (r : ℕ) (answer : List ℕ) : Type 0 where
  pub number : r ≡ judged_number judgement
  pub numbers : answer ≡ filled 115 (figures_told prices judgement)

-- a refusal's place, and zeros behind it, n in all
abbrev pub refused_numbers : ℕ → ℕ → List ℕ
refused_numbers n place = set (replicate n 0) 0 place

-- a run: the ending, row, ticks, bytes used, and the number of loops
unfoldable pub head_numbers : Outcome → List ℕ
head_numbers o = set (set (set (set (set (replicate 53 0) 0 (ending_number o.ending)) 1 o.row) 2 o.ticks) 3 o.used) 4 o.loops

-- then for loop k its row, all turns and the most in one entry, the first of them at `first` + 3k
unfoldable pub loop_numbers : ℕ → ℕ → List LoopCount → List ℕ → List ℕ
loop_numbers first zero counts head = head
loop_numbers first (suc k) counts head =
    let c : LoopCount = get_or counts k no_count in
    set (set (set (loop_numbers first k counts head) (first + 3 * k) c.row) (first + 1 + 3 * k) c.all) (first + 2 + 3 * k) c.most

-- all numbers of a run
unfoldable pub numbers_of : Outcome → List ℕ
numbers_of o = loop_numbers 5 (min o.loops 16) o.counts (head_numbers o)

-- those of a run's answer
abbrev pub run_numbers : Result Outcome Refusal → List ℕ
run_numbers (Ok o) = numbers_of o
run_numbers (Err r) = refused_numbers 53 r.place

-- a run call's answer in numbers: those of an outcome that is document 01's, and that keeps within the report
pub record Told-in-numbers (prices : List ℕ) (judgement : Judged) (store new : List ℤ) (picks : List ℕ) (allowance r : ℕ) (answer : List ℕ) : Type 0 where
  pub outcome : Result Outcome Refusal
  pub kept : KeptCall prices judgement store new picks allowance outcome
  pub number : r ≡ answer_number outcome
  pub numbers : answer ≡ run_numbers outcome

-- a script's 54 numbers in a call of frames: its frame, then those of a run's answer
abbrev pub script_numbers : Played → List ℕ
script_numbers x = x.frame ∷ numbers_of x.outcome

-- one script after the other
unfoldable pub all_numbers : List Played → List ℕ
all_numbers [] = []
all_numbers (x ∷ xs) = script_numbers x ++ all_numbers xs

-- a number of an accepted call, or the script that is refused
abbrev pub script_by : Verdict → ℕ → ℕ → ℕ
script_by Passed n script = n
script_by (Refused q p) n script = script

-- the most ticks in one frame, then the scripts; or a refusal's place, then which script is refused, from 1, or 0
unfoldable pub frames_numbers : FramesAnswer → List ℕ
frames_numbers f =
    let all : List ℕ = most_by f.verdict f.most ∷ all_numbers f.scripts in
    set all 1 (script_by f.verdict (get_or all 1 0) f.script)

-- a call of frames in numbers: those of an answer that is document 02's, each script in time
pub record Framed-in-numbers (prices : List ℕ) (scratch : ℕ) (l : Lent) (q : ℕ) (new : List ℤ) (r : ℕ) (answer : List ℕ) : Type 0 where
  pub frames : FramesAnswer
  pub framed : FramedCall prices scratch l q new frames
  pub number : r ≡ verdict_number frames.verdict
  pub numbers : answer ≡ frames_numbers frames

-- a start's answer: the report's ticks, then the number of loops; or a refusal's place
abbrev pub started_numbers : Result Started Refusal → List ℕ
started_numbers (Ok s) = s.ticks ∷ s.loops ∷ []
started_numbers (Err r) = refused_numbers 2 r.place

-- the start of a live run in numbers
pub record Started-in-numbers (reply : StartReply) (old new : List ℕ) (r : ℕ) (answer : List ℕ) : Type 0 where
  pub done : Result Started Refusal
  pub started_as : StartedAs reply old new done
  pub number : r ≡ answer_number done
  pub numbers : answer ≡ started_numbers done

-- a step: the status, then row, ticks of this step and of all, bytes of this step and of all, cues, loops
unfoldable pub step_head : StepDone → List ℕ
step_head s =
    set (set (set (set (set (set (set (set (replicate 56 0) 0 s.status) 1 s.row) 2 s.ticks) 3 s.all_ticks) 4 s.used) 5 s.all_used) 6 s.cues) 7 s.loops

-- all its numbers
unfoldable pub step_numbers : StepDone → List ℕ
step_numbers s = loop_numbers 8 (min s.loops 16) s.counts (step_head s)

-- those of a step's answer
abbrev pub stepped_numbers : Result StepDone Refusal → List ℕ
stepped_numbers (Ok s) = step_numbers s
stepped_numbers (Err r) = refused_numbers 56 r.place

-- a step in numbers: those of an answer that is document 03's, and what it leaves in store, state and cues
pub record Stepped-in-numbers (reply : StepReply) (store store' : List ℤ) (state state' cues cues' : List ℕ) (r : ℕ) (answer : List ℕ) : Type 0 where
  pub done : Result StepDone Refusal
  pub stepped_as : SteppedAs reply store store' state state' cues cues' done
  pub number : r ≡ answer_number done
  pub numbers : answer ≡ stepped_numbers done
