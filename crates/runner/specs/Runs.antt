-- What the loop over the machine's steps asks and ensures.
use Rattle.std.specs.Prelude.{◌≡◌, true, false, List, ℕ, ◌+◌, ◌≤◌, ◌<◌, ◌^◌, length, ℤ}
use Rattle.rules.specs.declared.Ending.TheVariants.{Spent}
use Rattle.rules.specs.declared.Prices.{Prices}
use Rattle.rules.specs.Blocks.{RowKind}
use Rattle.rules.specs.Calls.{loop_rows}
use Rattle.rules_machine.specs.RowMachine.{TurnCounts, Place, Next, more, steps, rank, pairs}
use Rattle.rules_frames.specs.Frames.{stopped, runs_on}
use Rattle.run_actions.specs.declared.Machine.{Machine}
use Rattle.run_actions.specs.declared.Status.{Status}
use Rattle.run_actions.specs.declared.Status.TheVariants.{Going, Over}
use Rattle.run_actions.specs.States.{tally_of, place_of, state_of, next_of, is_going}
use Rattle.run_machine.specs.Steps.{script_in, Runs, Room, EndsLoop}

-- where a machine stands among the rows
abbrev pub place_in : List RowKind → Machine → List ℤ → List ℕ → List (List ℕ) → Place
place_in rows m store picks counts = place_of m store picks (tally_of (loop_rows 0 rows) counts)

-- no count outgrows 64 bits on the way to the end
abbrev pub RoomToEnd : List RowKind → Place → Type 0
RoomToEnd rows m = (p : ℕ) → (m.tally.turns p + rank (length rows) m < 2 ^ 63) × (m.tally.sum p + rank (length rows) m < 2 ^ 63)

-- a machine that is going may go on to the end
pub record MayGo (text : List ℕ) (π : Prices) (t : List ℕ) (count : ℕ) (m : Machine) (store : List ℤ) (picks : List ℕ) (counts : List (List ℕ)) : Type 0 where
  pub script : Runs text t count (length store)
  pub price : 1 ≤ π.test
  pub going : m.status ≡ Going
  pub waits : m.testing ≡ true → EndsLoop (script_in text t count) m.row
  pub used : m.used ≤ length picks
  pub long : length counts ≡ 16
  pub room : RoomToEnd (script_in text t count) (place_in (script_in text t count) m store picks counts)

-- where a machine stands between two frames: spent, it waits where it is
abbrev pub stand_by : Status → Machine → List ℤ → List ℕ → TurnCounts → Next
stand_by Going m store picks c = more (place_of m store picks c)
stand_by (Over e i) m store picks c = stopped (place_of m store picks c) e i (state_of m store picks) c

-- by its own status
abbrev pub stand_of : Machine → List ℤ → List ℕ → TurnCounts → Next
stand_of m store picks c = stand_by m.status m store picks c

-- m going, with q ticks more
abbrev pub with_ticks : ℕ → Machine → Machine
with_ticks q m = record { row = m.row; testing = m.testing; left = m.left + q; used = m.used; status = Going }

-- it has gone on to r, where it is over: "until it finishes or its next price does not fit"
pub record WentOn (π : Prices) (rows : List RowKind) (m r : Machine) (store store' : List ℤ) (picks : List ℕ) (counts counts' : List (List ℕ)) : Type 0 where
  pub n : ℕ
  pub same : steps π rows (pairs rows (length rows)).end (pairs rows (length rows)).head n (more (place_in rows m store picks counts)) ≡ next_of r store' picks (tally_of (loop_rows 0 rows) counts')
  pub over : is_going r.status ≡ false
  pub stand : stand_of r store' picks (tally_of (loop_rows 0 rows) counts') ≡ runs_on π rows (pairs rows (length rows)).end (pairs rows (length rows)).head (place_in rows m store picks counts)
  pub waits : (i : ℕ) → r.status ≡ Over Spent i → r.testing ≡ true → EndsLoop rows r.row
  pub left : r.left ≤ m.left
  pub used : r.used ≤ length picks
  pub room : Room rows counts'
