-- What a call of frames answers, as code holds it.
use Rattle.std.specs.Prelude.{◌≡◌, List, [], ℕ, ◌*◌, ◌≤◌, ◌<◌, ◌^◌, ℤ, Result, Ok, Err, length, get_or, take, replicate}
use Rattle.rules.specs.declared.Ending.TheVariants.{Ended}
use Rattle.rules.specs.Verdicts.{Verdict, passed as Passed, refused as Refused}
use Rattle.rules_frames.specs.Frames
use Rattle.rules.specs.Calls.{prices_of, scratch_size}
use Rattle.rules_frames.specs.Frames.{FramesReply, played, stores_after, Lent, parts_of, readiness, played_by}
use Rattle.runner.specs.Answered.{ran_of}
use Rattle.run_loops.specs.Loops.{no_count, NoneFrom, Counted, LoopsOf}
use Rattle.calls_scripts.specs.declared.Held.{Held}
use Rattle.calls_scripts.specs.declared.HeldScripts.{HeldScripts}
use Rattle.calls_scripts.specs.declared.ScriptRefusal.{ScriptRefusal}
use Rattle.calls_scripts.specs.Held.{slice_of, Inside, nobody, refused_script}
use Rattle.calls_turns.specs.declared.Progress.{Progress}
use Rattle.calls_turns.specs.Progress.{start_progress}
use Rattle.calls_frames.specs.declared.Played.{Played}
use Rattle.calls_frames.specs.declared.Frames as code

-- past the last script
abbrev pub no_answer : Played
no_answer = record { frame = 0; outcome = record { ending = Ended; row = 0; ticks = 0; used = 0; loops = 0; counts = replicate 16 no_count } }

-- what a call of frames answers: a verdict, the script that is refused, from 1, or 0, the most ticks in one frame, and the scripts' answers
pub record FramesAnswer : Type 0 where
  pub verdict : Verdict
  pub script : ℕ
  pub most : ℕ
  pub scripts : List Played

-- a refusal, of that script
abbrev pub no_frames : ℕ → ℕ → ℕ → FramesAnswer
no_frames q p script = record { verdict = Refused q p; script = script; most = 0; scripts = replicate 8 no_answer }

-- the answer as code holds it
abbrev pub frames_answer : Result code.Frames ScriptRefusal → FramesAnswer
frames_answer (Ok f) = record { verdict = Passed; script = 0; most = f.most; scripts = f.scripts }
frames_answer (Err r) = no_frames r.refusal.number r.refusal.place r.script

-- a script whose ticks and counts fit, with `count` rows in its table
pub record Answerable (q : ℕ) (p : Progress) (t : List ℕ) (count : ℕ) (counts : List (List ℕ)) : Type 0 where
  pub left : p.machine.left ≤ p.frame * q
  pub few : p.frame * q < 2 ^ 63
  pub counted : (text : List ℕ) × Counted text t count counts

-- its answer is that of its machine
pub record AnsweredBy (q : ℕ) (p : Progress) (t : List ℕ) (count : ℕ) (counts : List (List ℕ)) (r : Played) : Type 0 where
  pub frame : r.frame ≡ p.frame
  pub ran : record { ending = r.outcome.ending; row = r.outcome.row; ticks = r.outcome.ticks; used = r.outcome.used } ≡ ran_of p.machine (p.frame * q)
  pub loops : LoopsOf t count counts (record { count = r.outcome.loops; counts = r.outcome.counts })

-- of each script, in its place
abbrev pub AllAnswerable : ℕ → HeldScripts → List ℕ → List Progress → List (List (List ℕ)) → Type 0
AllAnswerable q all tables progress counts =
    (j : ℕ) → j < all.number → let h : Held = get_or all.each j nobody in Inside h.places.table tables × Answerable q (get_or progress j start_progress) (slice_of h.places.table tables) h.count (get_or counts j [])

-- the answers of all scripts; none after them
pub record AllAnswered (q : ℕ) (all : HeldScripts) (tables : List ℕ) (progress : List Progress) (counts : List (List (List ℕ))) (r : List Played) : Type 0 where
  pub each : (j : ℕ) → j < all.number → let h : Held = get_or all.each j nobody in AnsweredBy q (get_or progress j start_progress) (slice_of h.places.table tables) h.count (get_or counts j []) (get_or r j no_answer)
  pub rest : (j : ℕ) → all.number ≤ j → get_or r j no_answer ≡ no_answer

-- a script's answer, of document 02's
pub record ToldPlayed (x : Played) (a : Frames.Played) : Type 0 where
  pub frame : x.frame ≡ a.frame
  pub ending : x.outcome.ending ≡ a.ending
  pub row : x.outcome.row ≡ a.row
  pub ticks : x.outcome.ticks ≡ a.ticks
  pub used : x.outcome.used ≡ a.used
  pub loops : x.outcome.loops ≡ length a.counts
  pub counts : take x.outcome.loops x.outcome.counts ≡ a.counts
  pub rest : NoneFrom x.outcome.loops x.outcome.counts

-- past the last of a list of answers
abbrev pub no_played : Frames.Played
no_played = record { frame = 0; ending = Ended; row = 0; ticks = 0; used = 0; store = []; counts = [] }

-- all answers, and the most ticks in one frame
pub record ToldFrames (f : FramesAnswer) (rs : List Frames.Played) (m : ℕ) : Type 0 where
  pub verdict : f.verdict ≡ Passed
  pub most : f.most ≡ m
  pub few : length rs ≤ 8
  pub each : (j : ℕ) → j < length rs → ToldPlayed (get_or f.scripts j no_answer) (get_or rs j no_played)
  pub rest : (j : ℕ) → length rs ≤ j → get_or f.scripts j no_answer ≡ no_answer

-- the answer is what the reply says
abbrev pub FramesAnswered : FramesAnswer → FramesReply → Type 0
FramesAnswered f (played rs m) = ToldFrames f rs m
FramesAnswered f (FramesReply.refuses q p) = f ≡ no_frames q p f.script

-- the answer, and the stores after it
pub record Framed (reply : FramesReply) (old new : List ℤ) (f : FramesAnswer) : Type 0 where
  pub told : FramesAnswered f reply
  pub stores : new ≡ stores_after reply old

-- the same after 20, 1 and 16, and which script is refused
pub record FramedScripts (prices : List ℕ) (l : Lent) (q : ℕ) (new : List ℤ) (f : FramesAnswer) : Type 0 where
  pub framed : Framed (played_by (prices_of prices) q (readiness prices scratch_size (parts_of l))) l.stores new f
  pub script : f.script ≡ refused_script prices (parts_of l)
