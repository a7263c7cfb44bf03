-- What is printed of a live run: of a step `frame=N WORD ROW ticks=T all=A used=U cues=N,N,..`, of a cue `cue=N ROW TICK`, and the answer so far.
use Rattle.std.specs.Prelude.{Result, Ok, Err, Bool, true, cond, List, [], ◌∷◌, ◌++◌, ℕ, eqb, take}
use Rattle.rules.specs.declared.Ending.{Ending}
use Rattle.rules.specs.declared.Ending.TheVariants.{Ended, Spent, NoPick}
use Rattle.rules.specs.declared.Refusal.{Refusal}
use Rattle.rules.specs.Report.{decimal, joined, ticks_key, newline, gap}
use Rattle.rules_season.specs.Season.{refusal_text}
use Rattle.calls.specs.declared.Outcome.{Outcome}
use Rattle.calls_live.specs.declared.StepDone.{StepDone}
use Rattle.answer_text.specs.Texts.{used_key, listed, three_text}

-- `frame=`
abbrev pub frame_key : List ℕ
frame_key = 102 ∷ 114 ∷ 97 ∷ 109 ∷ 101 ∷ 61 ∷ []

-- `all=`
abbrev pub all_key : List ℕ
all_key = 97 ∷ 108 ∷ 108 ∷ 61 ∷ []

-- `cues=`
abbrev pub cues_key : List ℕ
cues_key = 99 ∷ 117 ∷ 101 ∷ 115 ∷ 61 ∷ []

-- `cue=`
abbrev pub cue_key : List ℕ
cue_key = 99 ∷ 117 ∷ 101 ∷ 61 ∷ []

-- the words of the status, a space on both sides: `going`
abbrev pub going_word : List ℕ
going_word = 32 ∷ 103 ∷ 111 ∷ 105 ∷ 110 ∷ 103 ∷ 32 ∷ []

-- `waits`
abbrev pub waits_word : List ℕ
waits_word = 32 ∷ 119 ∷ 97 ∷ 105 ∷ 116 ∷ 115 ∷ 32 ∷ []

-- `full`
abbrev pub full_word : List ℕ
full_word = 32 ∷ 102 ∷ 117 ∷ 108 ∷ 108 ∷ 32 ∷ []

-- `ended`
abbrev pub ended_word : List ℕ
ended_word = 32 ∷ 101 ∷ 110 ∷ 100 ∷ 101 ∷ 100 ∷ 32 ∷ []

-- `range`
abbrev pub range_word : List ℕ
range_word = 32 ∷ 114 ∷ 97 ∷ 110 ∷ 103 ∷ 101 ∷ 32 ∷ []

-- "the status (0 going, 1 waits, 2 full, 3 ended, 4 range)"
unfoldable pub status_word : ℕ → List ℕ
status_word s = cond (eqb s 0) going_word (cond (eqb s 1) waits_word (cond (eqb s 2) full_word (cond (eqb s 3) ended_word range_word)))

-- the number of a cue, with a comma before it if it is not the first
unfoldable pub cue_text : Bool → ℕ → List ℕ
cue_text first n = cond first [] (44 ∷ []) ++ decimal n

-- what comes before the cues of a step
unfoldable pub step_front : ℕ → StepDone → List ℕ
step_front frame d =
    joined (frame_key ∷ decimal frame ∷ status_word d.status ∷ decimal d.row ∷ gap ∷ ticks_key ∷ decimal d.ticks ∷ gap ∷ all_key ∷ decimal d.all_ticks ∷ gap ∷ used_key ∷ decimal d.used ∷ gap ∷ cues_key ∷ [])

-- the line of a step, the frame-th, by what it answers and the list of cues after it; or its refusal
unfoldable pub step_text : ℕ → Result StepDone Refusal → List ℕ → List ℕ
step_text frame (Ok d) cues = step_front frame d ++ (listed cue_text true (take d.cues cues) ++ newline)
step_text frame (Err r) cues = refusal_text r.number r.place

-- `cue=N ROW TICK`
abbrev pub cue_line : ℕ → ℕ → ℕ → List ℕ
cue_line n row tick = three_text cue_key n row tick

-- How the run ends that is cut off where a live run stands: without a byte where it waits, and spent where it is going or finds no room for a cue.
unfoldable pub ending_of : ℕ → Ending
ending_of s = cond (eqb s 3) Ended (cond (eqb s 4) Ending.Range (cond (eqb s 1) NoPick Spent))

-- its answer
abbrev pub so_far : StepDone → Outcome
so_far d = record {
  ending = ending_of d.status;
  row = d.row;
  ticks = d.all_ticks;
  used = d.all_used;
  loops = d.loops;
  counts = d.counts;
}
