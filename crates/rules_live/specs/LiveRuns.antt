-- What request 15 says of a series of steps: the run is the run, it is in time, no frame is long, cutting changes nothing, and demand 3.
use Rattle.std.specs.Prelude.{◌≡◌, List, [], ◌∷◌, ◌++◌, ℕ, zero, suc, ◌+◌, ◌-◌, ◌≤◌, ◌<◌, ℤ, length, take, drop}
use Rattle.rules.specs.Blocks.{RowKind, is_pick, view_at}
use Rattle.rules.specs.declared.LoopCount.{LoopCount}
use Rattle.rules.specs.declared.Ending.{Ending}
use Rattle.rules.specs.declared.Ending.TheVariants.{Ended, Spent, NoPick}
use Rattle.rules.specs.declared.Prices.{Prices}
use Rattle.rules.specs.Bounds.{FinePrices}
use Rattle.rules.specs.Scripts.{All, Pairwise, Script, report_ticks, report_lines, Accepted, StoreIn}
use Rattle.rules.specs.Run.{State, Entry}
use Rattle.rules.specs.Answers.{Answer}
use Rattle.rules.specs.Verdicts.{passed}
use Rattle.rules.specs.Calls.{accepted, prices_of, judged, store_verdict, loop_rows, counts_at, run_script}
use Rattle.rules.specs.Claim.{Lined, Counts-fit}
use Rattle.rules_machine.specs.RowMachine.{TurnCounts, Place, Next, more, over, counts_of}
use Rattle.rules_frames.specs.Frames.{due, after_frames}
use Rattle.rules_frames.specs.Frames
use Rattle.rules_frames.specs.InTime.{dearest}
use Rattle.rules_live.specs.Cues.{cue_of, cues_to}
use Rattle.rules_live.specs.Live.{Stand, going, waits, full, finished, StepLent, Stepped, left_at, Live, beginning, joined, step_of, after_steps, store_at, counts_at_stand, row_at}

-- ---- what a series starts from
-- what `start` accepts: "every accepted file, every store inside its ranges, every price list"
pub record StartAccepts (π : Prices) (script : Script) (store : List ℤ) : Type 0 where
  pub prices : FinePrices π
  pub script_accepted : Accepted π script
  pub inside : StoreIn script store

-- the same from what is lent: 1, 16 and 2 to 13 have yes, and 15
unfoldable pub EveryStart : Type 0
EveryStart =
    (prices : List ℕ) (scratch : ℕ) (file : List ℕ) (script : Script) → judged prices scratch file ≡ accepted script
    → (store : List ℤ) → store_verdict 0 script.ranges store ≡ passed → StartAccepts (prices_of prices) script store

-- ---- 1, the run is the run
-- an ending that finishes a live run
abbrev pub Closes : Ending → Type 0
Closes Ended = Unit {0}
Closes Ending.Range = Unit {0}
Closes Spent = ⊥
Closes NoPick = ⊥

-- finished: "ended or ran out of range"
abbrev pub IsFinished : Stand → Type 0
IsFinished (going m) = ⊥
IsFinished (waits m) = ⊥
IsFinished (full m) = ⊥
IsFinished (finished e i s c) = Closes e

-- the ending of the run; one that is cut off there is spent, or lacks a byte
unfoldable pub ending_at : Stand → Ending
ending_at (going m) = Spent
ending_at (waits m) = NoPick
ending_at (full m) = Spent
ending_at (finished e i s c) = e

-- the allowance of the run: the report's ticks for a finished one, the ticks so far for one that is cut off there
unfoldable pub allowance_at : ℕ → ℕ → Stand → ℕ
allowance_at total ticks (going m) = ticks
allowance_at total ticks (waits m) = ticks
allowance_at total ticks (full m) = ticks
allowance_at total ticks (finished e i s c) = total

-- a live run is this run, with these cues
pub record IsTheRun (π : Prices) (script : Script) (l : Live) (a : Answer) (cues : List ℕ) : Type 0 where
  pub ending : ending_at l.stand ≡ a.ending
  pub row : row_at π script l.stand ≡ a.row
  pub ticks : l.ticks ≡ a.ticks
  pub used : length l.used ≡ a.used
  pub store : store_at l.stand ≡ a.store
  pub counts : counts_of (counts_at_stand l.stand) (loop_rows 0 script.rows) ≡ counts_at a.entries (loop_rows 0 script.rows)
  pub same_cues : l.cues ≡ cues

-- 1: "The run is the run", with the used bytes as picks; after a step or more
unfoldable pub RunIsTheRun : Type 0
RunIsTheRun =
    (π : Prices) (script : Script) (store : List ℤ) → StartAccepts π script store → (ls : List StepLent) → 1 ≤ length ls
    → let l : Live = after_steps π script store ls in
    let n : ℕ = allowance_at (report_ticks π script) l.ticks l.stand in IsTheRun π script l (run_script π script store l.used n) (cues_to π script store l.used n)

-- ---- 2, in time
-- 2: "With the same q in all steps, it is finished after n steps if n less the steps that ended in 'waits' or 'full' is ceil(T/q) or more (1 if T is 0)."
unfoldable pub LiveInTime : Type 0
LiveInTime =
    (π : Prices) (script : Script) (store : List ℤ) → StartAccepts π script store
    → (q : ℕ) → 1 ≤ q → (ls : List StepLent) → All (λ l. l.q ≡ q) ls
    → let l : Live = after_steps π script store ls in due q (report_ticks π script) ≤ length ls - l.held → IsFinished l.stand

-- ---- 3, no frame is long
-- one list begins another
abbrev pub Begins : List ℕ → List ℕ → Type 0
Begins a b = (l : List ℕ) × (b ≡ a ++ l)

-- A standing that a step may find, whatever the state says: at a row of the script or past its last, with less than the dearest price; waiting at
-- a pick, full at a cue, finished by an ending that finishes.
abbrev pub CanStand : Prices → List RowKind → Stand → Type 0
CanStand π rows (going m) = (m.row ≤ length rows) × (m.now.left < dearest π)
CanStand π rows (waits m) = (view_at rows m.row ≡ is_pick) × (m.now.left < dearest π)
CanStand π rows (full m) = (1 ≤ length (cue_of (view_at rows m.row))) × (m.now.left < dearest π)
CanStand π rows (finished e i s c) = Closes e

-- A step s that had carried so much: one that ends in "waits" has used all bytes that it was lent; one that ends in "full" has as many cues as there is
-- room for, and the price of one more fits.
abbrev pub HeldUp : Prices → StepLent → ℕ → Stepped → Stand → Type 0
HeldUp π l carried s (going m) = Unit {0}
HeldUp π l carried s (waits m) = s.used ≡ l.picks
HeldUp π l carried s (full m) = (length s.cues ≡ l.room) × (s.ticks + π.cue ≤ carried + l.q)
HeldUp π l carried s (finished e i t c) = Unit {0}

-- what a step leaves: a standing that the next may find; "at most q and the dearest price less 1"; the first bytes used, no more cues than have room
pub record StepLeaves (π : Prices) (rows : List RowKind) (l : StepLent) (a : Stand) (s : Stepped) : Type 0 where
  pub can_stand : CanStand π rows s.stand
  pub ticks : s.ticks ≤ l.q + (dearest π - 1)
  pub used : Begins s.used l.picks
  pub cues : length s.cues ≤ l.room
  pub held_up : HeldUp π l (left_at a) s s.stand

-- of every such standing, be it one of a run or not
unfoldable pub StepFromAny : Type 0
StepFromAny =
    (π : Prices) → FinePrices π → (script : Script) → Accepted π script → (l : StepLent) (a : Stand) → CanStand π script.rows a
    → StepLeaves π script.rows l a (step_of π script l a)

-- 3: "One step takes at most q and the dearest price less 1", in every series
unfoldable pub NoLongFrame : Type 0
NoLongFrame =
    (π : Prices) (script : Script) (store : List ℤ) → StartAccepts π script store → (ls : List StepLent) (l : StepLent)
    → let a : Stand = (after_steps π script store ls).stand in StepLeaves π script.rows l a (step_of π script l a)

-- ---- 4, cutting changes nothing
-- two finished runs are alike in all that 1 speaks of
pub record Alike (π : Prices) (script : Script) (a b : Live) : Type 0 where
  pub ending : ending_at a.stand ≡ ending_at b.stand
  pub row : row_at π script a.stand ≡ row_at π script b.stand
  pub ticks : a.ticks ≡ b.ticks
  pub used : a.used ≡ b.used
  pub store : store_at a.stand ≡ store_at b.stand
  pub counts : counts_of (counts_at_stand a.stand) (loop_rows 0 script.rows) ≡ counts_of (counts_at_stand b.stand) (loop_rows 0 script.rows)
  pub cues : a.cues ≡ b.cues

-- Two runs on the same bytes: finished they are alike, and no other run has more ticks than a finished one. The one with no more ticks has fired
-- what the other fired first, and with fewer it has used what the other used first (with as many, one may wait for the byte that the other has).
pub record CutOtherwise (π : Prices) (script : Script) (a b : Live) : Type 0 where
  pub finished_alike : IsFinished a.stand → IsFinished b.stand → Alike π script a b
  pub last : IsFinished b.stand → a.ticks ≤ b.ticks
  pub fired : a.ticks ≤ b.ticks → Begins a.cues b.cues
  pub used : a.ticks < b.ticks → Begins a.used b.used

-- 4: "Two series that are lent the same bytes, cut otherwise, use and fire the same": what both have used begins one list of bytes
unfoldable pub CuttingChangesNothing : Type 0
CuttingChangesNothing =
    (π : Prices) (script : Script) (store : List ℤ) → StartAccepts π script store → (ks ls : List StepLent) (bytes : List ℕ)
    → let a : Live = after_steps π script store ks in
    let b : Live = after_steps π script store ls in Begins a.used bytes → Begins b.used bytes → CutOtherwise π script a b

-- a step that is lent q, so many of the bytes that are not used yet, and room for so many cues
pub record Cut : Type 0 where
  pub q : ℕ
  pub count : ℕ
  pub room : ℕ

-- what it is lent after a
abbrev pub lent_of : List ℕ → Live → Cut → StepLent
lent_of bytes a c = record { q = c.q; picks = take c.count (drop (length a.used) bytes); room = c.room }

-- the same bytes, cut so, after a
unfoldable pub cut_from : Prices → Script → List ℕ → Live → List Cut → Live
cut_from π script bytes a [] = a
cut_from π script bytes a (c ∷ cs) = cut_from π script bytes (joined a (step_of π script (lent_of bytes a c) a.stand)) cs

-- 4 of two series that are lent the same bytes from the first one on: "what a step does not use is the caller's to lend again"
unfoldable pub SameBytesCut : Type 0
SameBytesCut =
    (π : Prices) (script : Script) (store : List ℤ) → StartAccepts π script store → (bytes : List ℕ) (cs ds : List Cut)
    → CutOtherwise π script (cut_from π script bytes (beginning store) cs) (cut_from π script bytes (beginning store) ds)

-- ---- 5, demand 3
-- Within the report: the ticks, of each loop the turns and the most in one entry, and every entry its line's turns, just these where "exact" says so
-- and the test ended it.
pub record WithinReport (π : Prices) (script : Script) (ticks : ℕ) (counts : List LoopCount) (entries : List Entry) : Type 0 where
  pub few_ticks : ticks ≤ report_ticks π script
  pub counted : Pairwise Counts-fit (report_lines script) counts
  pub lined : All (Lined (report_lines script)) entries

-- demand 3 of a run with any allowance, spent or not
unfoldable pub CutRunKeeps : Type 0
CutRunKeeps =
    (π : Prices) → 1 ≤ π.test → (script : Script) → Accepted π script → (store : List ℤ) → StoreIn script store → (picks : List ℕ) (allowance : ℕ)
    → let a : Answer = run_script π script store picks allowance in WithinReport π script a.ticks (counts_at a.entries (loop_rows 0 script.rows)) a.entries

-- 5: "Demand 3 of the whole series: ticks, turns, totals and 'exact' as for a run"; its entries are those of the run that it is
unfoldable pub LiveKeeps : Type 0
LiveKeeps =
    (π : Prices) (script : Script) (store : List ℤ) → StartAccepts π script store → (ls : List StepLent) → 1 ≤ length ls
    → let l : Live = after_steps π script store ls in
    let a : Answer = run_script π script store l.used (allowance_at (report_ticks π script) l.ticks l.stand) in
    WithinReport π script l.ticks (counts_of (counts_at_stand l.stand) (loop_rows 0 script.rows)) a.entries

-- ---- beside request 14
-- the frames of request 14 as steps: each is lent q, all bytes that are not used yet, and room for so many cues
unfoldable pub frames_as_steps : Prices → Script → List ℤ → List ℕ → ℕ → ℕ → ℕ → Live
frames_as_steps π script store picks q room zero = beginning store
frames_as_steps π script store picks q room (suc n) =
    let a : Live = frames_as_steps π script store picks q room n in
    joined a (step_of π script (record { q = q; picks = drop (length a.used) picks; room = room }) a.stand)

-- a script in frames and a live run stand at one place, or have finished alike
pub data StandAlike : Next → Stand → Type 0 where
  at_place : {m : Place} → StandAlike (more m) (going m)
  at_the_end : {e : Ending} {i : ℕ} {s : State} {c : TurnCounts} → StandAlike (over e i s c) (finished e i s c)

-- "It gives the script q ticks and runs on, as in request 14": where no pick lacks a byte and the list has room for the cues that a frame can fire
unfoldable pub FramesAsSteps : Type 0
FramesAsSteps =
    (π : Prices) (script : Script) (store : List ℤ) → StartAccepts π script store → (picks : List ℕ) → ((run_script π script store picks (report_ticks π script)).ending ≡ NoPick → ⊥)
    → (q room n : ℕ) → 1 ≤ q → q + dearest π ≤ room → 1 ≤ n
    → StandAlike (after_frames π q (Frames.beginning script store picks) n).stand (frames_as_steps π script store picks q room n).stand

-- ---- the state
-- What the state of a series holds: a standing that the next step may find; ticks within the report; no more bytes used than ticks taken; of each
-- loop counts within its line, and in the current entry no more turns than the most in one.
pub record StateHolds (π : Prices) (script : Script) (l : Live) : Type 0 where
  pub can_stand : CanStand π script.rows l.stand
  pub ticks : l.ticks ≤ report_ticks π script
  pub used : length l.used ≤ l.ticks
  pub counts : Pairwise Counts-fit (report_lines script) (counts_of (counts_at_stand l.stand) (loop_rows 0 script.rows))
  pub turns : (p : ℕ) → (counts_at_stand l.stand).turns p ≤ (counts_at_stand l.stand).most p

-- of every series, also of no step: the state that `start` writes
unfoldable pub StateOfSeries : Type 0
StateOfSeries = (π : Prices) (script : Script) (store : List ℤ) → StartAccepts π script store → (ls : List StepLent) → StateHolds π script (after_steps π script store ls)
