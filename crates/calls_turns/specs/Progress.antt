-- Scripts in their frames, as code holds them.
use Rattle.std.specs.Prelude.{◌≡◌, Bool, true, false, ◌||◌, List, ℕ, ◌+◌, ◌-◌, ◌*◌, ◌≤◌, ◌<◌, ◌^◌, ℤ, length}
use Rattle.rules.specs.declared.Ending.{Ending}
use Rattle.rules.specs.declared.Ending.TheVariants.{Ended, Spent, NoPick}
use Rattle.rules.specs.declared.Prices.{Prices}
use Rattle.rules.specs.Calls.{loop_rows}
use Rattle.rules_frames.specs.Frames
use Rattle.rules_frames.specs.Frames.{after_frames}
use Rattle.run_actions.specs.declared.Machine.{Machine}
use Rattle.run_actions.specs.declared.Status.{Status}
use Rattle.run_actions.specs.declared.Status.TheVariants.{Going, Over}
use Rattle.run_actions.specs.States.{tally_of}
use Rattle.run_machine.specs.Steps.{script_in, Room, EndsLoop}
use Rattle.runner.specs.Runs.{MayGo, stand_of, WentOn}
use Rattle.calls_scripts.specs.declared.Held.{Held}
use Rattle.calls_scripts.specs.Held.{slice_of, Inside, PutAt}
use Rattle.calls_turns.specs.declared.Progress.{Progress}
use Rattle.calls_turns.specs.declared.Frame.{Frame}
use Rattle.calls_turns.specs.declared.AfterTurn.{AfterTurn}

-- what waits for ticks
abbrev pub is_spent : Ending → Bool
is_spent Ended = false
is_spent Spent = true
is_spent Ending.Range = false
is_spent NoPick = false

-- not finished
abbrev pub is_waiting : Status → Bool
is_waiting Going = true
is_waiting (Over e i) = is_spent e

-- a script before its first frame: at its first row, and no ticks
abbrev pub start_progress : Progress
start_progress = record { machine = record { row = 0; testing = false; left = 0; used = 0; status = Going }; frame = 0 }

-- a frame before its first script
abbrev pub new_frame : ℕ → Frame
new_frame n = record { earlier = n; ticks = 0; waits = false }

-- its number, and its ticks with one turn more, are numbers of code
pub record FrameFits (f : Frame) : Type 0 where
  pub earlier : f.earlier < 2 ^ 63
  pub ticks : f.ticks < 2 ^ 63

-- the turn from m to r
abbrev pub turn_to : Machine → Machine → ℕ → Frame → AfterTurn
turn_to m r q f = record {
  progress = record { machine = r; frame = f.earlier + 1 };
  frame = record { earlier = f.earlier; ticks = f.ticks + (m.left + q - r.left); waits = f.waits || is_waiting r.status };
}

-- a script in its places may run on
pub record MayTurn (π : Prices) (files tables : List ℕ) (stores : List ℤ) (picks : List ℕ) (h : Held) (m : Machine) (counts : List (List ℕ)) : Type 0 where
  pub file : Inside h.places.file files
  pub table : Inside h.places.table tables
  pub store : Inside h.places.store stores
  pub pick : Inside h.places.picks picks
  pub may : MayGo (slice_of h.places.file files) π (slice_of h.places.table tables) h.count m (slice_of h.places.store stores) (slice_of h.places.picks picks) counts

-- it has run on from m to r; of the stores only its own is another
pub record Turned (π : Prices) (files tables : List ℕ) (stores stores' : List ℤ) (picks : List ℕ) (h : Held) (m r : Machine) (counts counts' : List (List ℕ)) : Type 0 where
  pub store : List ℤ
  pub wrote : PutAt h.places.store store stores stores'
  pub went : WentOn π (script_in (slice_of h.places.file files) (slice_of h.places.table tables) h.count) m r (slice_of h.places.store stores) store (slice_of h.places.picks picks) counts counts'

-- a script after n frames: where it stands, and the last frame that it ran in
pub record Stands (π : Prices) (q : ℕ) (p : Frames.Progress) (n : ℕ) (x : Progress) (store : List ℤ) (picks : List ℕ) (counts : List (List ℕ)) : Type 0 where
  pub stand : (after_frames π q p n).stand ≡ stand_of x.machine store picks (tally_of (loop_rows 0 p.script.rows) counts)
  pub waits : is_waiting x.machine.status ≡ true → x.machine.testing ≡ true → EndsLoop p.script.rows x.machine.row
  pub frame : (after_frames π q p n).frame ≡ x.frame
  pub late : x.frame ≤ n
  pub left : x.machine.left ≤ x.frame * q
  pub used : x.machine.used ≤ length picks
  pub room : Room p.script.rows counts
