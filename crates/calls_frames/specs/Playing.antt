-- All scripts in their frames, as code holds them.
use Rattle.std.specs.Prelude.{◌≡◌, List, [], ℕ, ◌*◌, ◌≤◌, ◌<◌, ℤ, length, get_or}
use Rattle.rules.specs.Calls.{Priced, prices_of, scratch_size}
use Rattle.rules_frames.specs.Frames
use Rattle.rules_frames.specs.Frames.{Lent, parts_of, after_frames, most, ready, readiness}
use Rattle.rules_frames.specs.InTime.{Done}
use Rattle.runner.specs.Answered.{Cleared}
use Rattle.calls_lists.specs.Parts.{lent_of, part_of, Fitted}
use Rattle.calls_scripts.specs.declared.HeldScripts.{HeldScripts}
use Rattle.calls_scripts.specs.Held.{no_progress, Holds}
use Rattle.calls_turns.specs.Progress.{start_progress, Stands}
use Rattle.calls_frames.specs.declared.Ended as code

-- the scripts may play: 20, 16 and their own questions have yes, and they are held
pub record FramesReady (prices : List ℕ) (l : Lent) (q : ℕ) (ps : List Frames.Progress) (tables : List ℕ) (all : HeldScripts) : Type 0 where
  pub priced : Priced prices
  pub fits : Fitted l q
  pub ready : readiness prices scratch_size (parts_of l) ≡ ready ps
  pub eight : length tables ≡ 8_192
  pub number : all.number ≡ length l.file_lengths
  pub holds : Holds l ps tables all.each

-- there are such scripts in what is lent
abbrev pub MayPlay : List ℕ → List ℕ → List ℕ → List ℤ → List ℕ → ℕ → HeldScripts → Type 0
MayPlay prices files tables stores picks q all = (fs ss ps : List ℕ) × (roles : List Frames.Progress) × FramesReady prices (lent_of files fs stores ss picks ps) q roles tables all

-- something is so of all such scripts
abbrev pub ForReady : List ℕ → List ℕ → List ℕ → List ℤ → List ℕ → ℕ → HeldScripts → (Lent → List Frames.Progress → Type 0) → Type 0
ForReady prices files tables stores picks q all P = (fs ss ps : List ℕ) (roles : List Frames.Progress) → FramesReady prices (lent_of files fs stores ss picks ps) q roles tables all → P (lent_of files fs stores ss picks ps) roles

-- no turn is counted yet
abbrev pub Uncounted : List (List (List ℕ)) → Type 0
Uncounted counts = (length counts ≡ 8) × ((j : ℕ) → j < 8 → Cleared (get_or counts j []))

-- all are finished, after n frames
pub record PlayedOut (prices : List ℕ) (l : Lent) (q : ℕ) (ps : List Frames.Progress) (e : code.Ended) (stores : List ℤ) (counts : List (List (List ℕ))) : Type 0 where
  pub n : ℕ
  pub few : n * q ≤ 1_000_001_000_000
  pub done : (j : ℕ) → j < length l.file_lengths → Done (after_frames (prices_of prices) q (get_or ps j no_progress) n).stand
  pub most : e.most ≡ most (prices_of prices) q ps n
  pub long : length stores ≡ length l.stores
  pub each : (j : ℕ) → j < length l.file_lengths
      → Stands (prices_of prices) q (get_or ps j no_progress) n (get_or e.progress j start_progress) (part_of l.store_lengths j stores) (part_of l.pick_lengths j l.picks) (get_or counts j [])
