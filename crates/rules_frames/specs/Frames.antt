-- "Several scripts in one frame" (change 14): the frames, question 20, and the call.
use Rattle.std.specs.Prelude.{Bool, cond, ◌&&◌, List, [], ◌∷◌, ◌++◌, ℕ, zero, suc, ◌+◌, ◌-◌, ◌*◌, ◌/◌, max, leb, eqb, ℤ, length, take, drop}
use Rattle.rules.specs.Blocks.{RowKind}
use Rattle.rules.specs.declared.LoopCount.{LoopCount}
use Rattle.rules.specs.declared.Ending.{Ending}
use Rattle.rules.specs.declared.Ending.TheVariants.{Ended, Spent, NoPick}
use Rattle.rules.specs.declared.Prices.{Prices}
use Rattle.rules.specs.Verdicts.{Verdict, passed, refused}
use Rattle.rules.specs.Scripts.{Script, store_of, report_ticks}
use Rattle.rules.specs.Run.{State}
use Rattle.rules.specs.Answers.{store_list}
use Rattle.rules_machine.specs.RowMachine.{TurnCounts, Place, Next, more, over, next, rank, start, pairs, counts_of}
use Rattle.rules.specs.Calls.{Judged, accepted, prices_of, judged, store_verdict, loop_rows}

-- ---- one script
-- a run that stops at place m: "ended, ran out of range or lacked a pick is finished"; spent, it waits there with what is left
unfoldable pub stopped : Place → Ending → ℕ → State → TurnCounts → Next
stopped m Spent i s c = more (record { row = m.row; phase = m.phase; now = s; tally = c })
stopped m Ended i s c = over Ended i s c
stopped m Ending.Range i s c = over Ending.Range i s c
stopped m NoPick i s c = over NoPick i s c

module _ (π : Prices) (rows : List RowKind) (matching_end_lem matching_head_lem : ℕ → ℕ) where
  -- from place m, whose next step gives a, "until it finishes or its next price does not fit", in at most n steps
  unfoldable pub onward : ℕ → Place → Next → Next
  onward zero m a = more m
  onward (suc n) m (more p) = onward n p (next π rows matching_end_lem matching_head_lem p)
  onward (suc n) m (over e i s c) = stopped m e i s c

  -- each step lowers the rank, so that these are enough
  unfoldable pub runs_on : Place → Next
  runs_on m = onward (suc (rank (length rows) m)) m (next π rows matching_end_lem matching_head_lem m)

-- q ticks more than what is left
abbrev pub given : ℕ → Place → Place
given q m = record {
  row = m.row;
  phase = m.phase;
  now = record { store = m.now.store; left = m.now.left + q; picks = m.now.picks };
  tally = m.tally;
}

-- a script in progress: its picks as lent, where it stands (`over`: finished), the last frame that it ran in
pub record Progress : Type 0 where
  pub script : Script
  pub picks : List ℕ
  pub stand : Next
  pub frame : ℕ

-- before its first frame it has no ticks
abbrev pub beginning : Script → List ℤ → List ℕ → Progress
beginning script store picks = record {
  script = script;
  picks = picks;
  stand = more (start (record { store = store_of store; left = 0; picks = picks }));
  frame = 0;
}

-- frame n of a script that stands at a: "each unfinished script gets q ticks and runs on"
unfoldable pub frame_from : Prices → ℕ → ℕ → Progress → Next → Progress
frame_from π q n p (more m) =
    let rows : List RowKind = p.script.rows in
    record { script = p.script; picks = p.picks; stand = runs_on π rows (pairs rows (length rows)).end (pairs rows (length rows)).head (given q m); frame = n }
frame_from π q n p (over e i s c) = p

-- frame n of a script
abbrev pub frame_of : Prices → ℕ → ℕ → Progress → Progress
frame_of π q n p = frame_from π q n p p.stand

-- a script after n frames
unfoldable pub after_frames : Prices → ℕ → Progress → ℕ → Progress
after_frames π q p zero = p
after_frames π q p (suc n) = frame_of π q (suc n) (after_frames π q p n)

-- what is left
unfoldable pub left_of : Next → ℕ
left_of (more m) = m.now.left
left_of (over e i s c) = s.left

-- the ticks that a script has taken: q in each frame that it ran in, less what is left
unfoldable pub ticks_of : ℕ → Progress → ℕ
ticks_of q p = p.frame * q - left_of p.stand

-- the ticks of a frame, a before and b after it: what it had and got, less what is left; a finished script takes none
unfoldable pub takes : ℕ → Next → Next → ℕ
takes q (more m) b = m.now.left + q - left_of b
takes q (over e i s c) b = 0

-- in frame n + 1
abbrev pub ticks_in : Prices → ℕ → Progress → ℕ → ℕ
ticks_in π q p n = takes q (after_frames π q p n).stand (after_frames π q p (suc n)).stand

-- ---- all scripts
-- the ticks that all together take in frame n + 1
unfoldable pub together : Prices → ℕ → List Progress → ℕ → ℕ
together π q [] n = 0
together π q (p ∷ ps) n = ticks_in π q p n + together π q ps n

-- "the most ticks that all together took in one frame", of the first n
unfoldable pub most : Prices → ℕ → List Progress → ℕ → ℕ
most π q ps zero = 0
most π q ps (suc n) = max (most π q ps n) (together π q ps n)

-- "finished by frame ceil(T/q), or the first if T is 0"
unfoldable pub due : ℕ → ℕ → ℕ
due q t = max 1 ((t + (q - 1)) / q)

-- the frame by which all are finished
unfoldable pub lasts : Prices → ℕ → List Progress → ℕ
lasts π q [] = 0
lasts π q (p ∷ ps) = max (due q (report_ticks π p.script)) (lasts π q ps)

-- ---- answers
-- a script's answer: "its ending, store, ticks and turns", row and bytes used as in a run's, and "the frame it finished in"
pub record Played : Type 0 where
  pub frame : ℕ
  pub ending : Ending
  pub row : ℕ
  pub ticks : ℕ
  pub used : ℕ
  pub store : List ℤ
  pub counts : List LoopCount

-- a script's answer at its ending
unfoldable pub played_as : ℕ → Progress → Ending → ℕ → State → TurnCounts → Played
played_as q p e i s c = record {
  frame = p.frame;
  ending = e;
  row = i;
  ticks = ticks_of q p;
  used = length p.picks - length s.picks;
  store = store_list (length p.script.ranges) s.store;
  counts = counts_of c (loop_rows 0 p.script.rows);
}

-- as it stands at a; not finished, it is spent so far
unfoldable pub played_at : ℕ → Progress → Next → Played
played_at q p (more m) = played_as q p Spent m.row m.now m.tally
played_at q p (over e i s c) = played_as q p e i s c

-- a script's answer
abbrev pub played_of : ℕ → Progress → Played
played_of q p = played_at q p p.stand

-- the answers after n frames
unfoldable pub answers : Prices → ℕ → List Progress → ℕ → List Played
answers π q [] n = []
answers π q (p ∷ ps) n = played_of q (after_frames π q p n) ∷ answers π q ps n

-- ---- the call
-- "files, stores and picks are each lent end to end with a list of their lengths"
pub record Lent : Type 0 where
  pub files : List ℕ
  pub stores : List ℤ
  pub picks : List ℕ
  pub file_lengths : List ℕ
  pub store_lengths : List ℕ
  pub pick_lengths : List ℕ

-- one script's part of it
pub record ScriptPart : Type 0 where
  pub file : List ℕ
  pub store : List ℤ
  pub picks : List ℕ

-- cut by the lengths
unfoldable pub cut_parts : List ℕ → List ℕ → List ℕ → List ℕ → List ℤ → List ℕ → List ScriptPart
cut_parts [] ss ps files stores picks = []
cut_parts (f ∷ fs) [] ps files stores picks = []
cut_parts (f ∷ fs) (s ∷ ss) [] files stores picks = []
cut_parts (f ∷ fs) (s ∷ ss) (p ∷ ps) files stores picks =
    record { file = take f files; store = take s stores; picks = take p picks } ∷ cut_parts fs ss ps (drop f files) (drop s stores) (drop p picks)

-- the parts of all scripts
abbrev pub parts_of : Lent → List ScriptPart
parts_of l = cut_parts l.file_lengths l.store_lengths l.pick_lengths l.files l.stores l.picks

-- what they add up to
unfoldable pub total : List ℕ → ℕ
total [] = 0
total (n ∷ ns) = n + total ns

-- from a to b
abbrev pub within : ℕ → ℕ → ℕ → Bool
within a b n = leb a n && leb n b

-- a length of each for 1 to 8 scripts
unfoldable pub counted : Lent → Bool
counted l = within 1 8 (length l.file_lengths) && (eqb (length l.store_lengths) (length l.file_lengths) && eqb (length l.pick_lengths) (length l.file_lengths))

-- that add up to what is lent
unfoldable pub covered : Lent → Bool
covered l = eqb (total l.file_lengths) (length l.files) && (eqb (total l.store_lengths) (length l.stores) && eqb (total l.pick_lengths) (length l.picks))

-- 20 has yes
unfoldable pub fitting : Lent → ℕ → Bool
fitting l q = counted l && (covered l && within 1 1_000_000 q)

-- the scripts before the first frame, or a refusal's number and place
pub data Readiness : Type 0 where
  ready : List Progress → Readiness
  refuses : ℕ → ℕ → Readiness

-- a script with the answer to its question 15, before the others
unfoldable pub joins : Script → Verdict → ScriptPart → Readiness → Readiness
joins script passed h (ready ps) = ready (beginning script h.store h.picks ∷ ps)
joins script passed h (refuses q p) = refuses q p
joins script (refused q p) h rest = refuses q p

-- the same with the answer to its questions 1, 16 and 2 to 13
unfoldable pub enters : Judged → ScriptPart → Readiness → Readiness
enters (accepted script) h rest = joins script (store_verdict 0 script.ranges h.store) h rest
enters (Judged.refuses q p) h rest = refuses q p

-- "else the first refused script's own number and place"
unfoldable pub readiness : List ℕ → ℕ → List ScriptPart → Readiness
readiness prices scratch [] = ready []
readiness prices scratch (h ∷ hs) = enters (judged prices scratch h.file) h (readiness prices scratch hs)

-- what the call answers: each script's answer and the most ticks in one frame, or number and place
pub data FramesReply : Type 0 where
  played : List Played → ℕ → FramesReply
  refuses : ℕ → ℕ → FramesReply

-- all frames: after the last one that is due all are finished, and no frame changes them any more
unfoldable pub played_by : Prices → ℕ → Readiness → FramesReply
played_by π q (ready ps) = played (answers π q ps (lasts π q ps)) (most π q ps (lasts π q ps))
played_by π q (Readiness.refuses n p) = refuses n p

-- "under one price list"; "20, place 0, .. before all other questions"
unfoldable pub frames_reply : List ℕ → ℕ → Lent → ℕ → FramesReply
frames_reply prices scratch l q = cond (fitting l q) (played_by (prices_of prices) q (readiness prices scratch (parts_of l))) (refuses 20 0)

-- the final stores end to end
unfoldable pub stores_of : List Played → List ℤ
stores_of [] = []
stores_of (a ∷ rs) = a.store ++ stores_of rs

-- the stores after the call; refused, "every store untouched"
unfoldable pub stores_after : FramesReply → List ℤ → List ℤ
stores_after (played rs m) old = stores_of rs
stores_after (refuses n p) old = old
