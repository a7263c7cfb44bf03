-- One step in code: from where a state stands to where it stops.
use Rattle.std.specs.Prelude.{◌≡◌, Bool, true, false, List, [], ℕ, suc, ◌+◌, ◌≤◌, ◌<◌, ℤ, length, take, drop}
use Rattle.rules.specs.declared.Ending.{Ending}
use Rattle.rules.specs.declared.Ending.TheVariants.{Ended, Spent, NoPick}
use Rattle.rules.specs.declared.Prices.{Prices}
use Rattle.rules.specs.Blocks.{RowKind, is_pick, view_at}
use Rattle.rules.specs.Calls.{loop_rows}
use Rattle.rules_machine.specs.RowMachine.{TurnCounts, fresh, Place, Next, more, over, picked, next, pairs}
use Rattle.rules_live.specs.Live.{Stand, Stop, stops_here, runs_on, keeps, row_of_next, status_number}
use Rattle.rules_live.specs.LiveState.{place_row, phase_at, carried_at}
use Rattle.table.specs.Code.{partner_in, numbers_at}
use Rattle.table.specs.declared.PricedRows.{PricedRows}
use Rattle.run_actions.specs.declared.Machine.{Machine}
use Rattle.run_actions.specs.declared.Status.{Status}
use Rattle.run_actions.specs.declared.Status.TheVariants.{Going, Over}
use Rattle.run_actions.specs.States.{tally_of, state_of, place_of, next_of, is_going}
use Rattle.run_machine.specs.Steps.{script_in, Runs, Room, EndsLoop}
use Rattle.runner.specs.Runs.{place_in}
use Rattle.runner.specs.declared.live.Stop.{Stop as Stopped}
use Rattle.runner.specs.Goes.{stood_by}
use Rattle.live_state.specs.Numbers.{due_number}
use Rattle.calls_live.specs.declared.Settled.{Settled}

-- ---- the byte of a script that waits
-- it waits at row m, whose partner is below 256, and no byte is used yet
pub record AtPick (m : Machine) (t : List ℕ) : Type 0 where
  pub row : m.row < 256
  pub partner : partner_in (numbers_at t m.row) < 256

-- it has taken its byte: 0 to the row after its partner; without a byte it waits on
pub record ByteTaken (m r : Machine) (t picks : List ℕ) : Type 0 where
  pub same : m.status ≡ Over NoPick m.row → (store : List ℤ) (c : TurnCounts)
      → next_of r store picks c ≡ picked m.row (partner_in (numbers_at t m.row) + 1) picks (state_of m store picks) c
  pub left : r.left ≡ m.left
  pub used : r.used ≤ length picks
  pub before : is_going m.status ≡ false → is_going r.status ≡ true → r.testing ≡ false

-- where place m goes on from, by the status: a script that waits takes the first byte, with 0 to row j; a finished one stays
unfoldable pub ready_by : ℕ → Status → Place → Next
ready_by j Going m = more m
ready_by j (Over NoPick i) m = picked m.row j m.now.picks m.now m.tally
ready_by j (Over Ended i) m = over Ended i m.now m.tally
ready_by j (Over Ending.Range i) m = over Ending.Range i m.now m.tally
ready_by j (Over Spent i) m = over Spent i m.now m.tally

-- r is where m goes on from
pub record Readied (m r : Machine) (t picks : List ℕ) : Type 0 where
  pub same : ((i : ℕ) → m.status ≡ Over NoPick i → i ≡ m.row) → (store : List ℤ) (c : TurnCounts)
      → next_of r store picks c ≡ ready_by (partner_in (numbers_at t m.row) + 1) m.status (place_of m store picks c)
  pub left : r.left ≡ m.left
  pub used : r.used ≤ length picks
  pub tests : is_going r.status ≡ true → r.testing ≡ true → (m.status ≡ Going) × (m.testing ≡ true) × (r.row ≡ m.row)

-- ---- until it stops
-- where it stops
unfoldable pub stop_from : Prices → List RowKind → ℕ → Next → Stop
stop_from π rows room (more p) = runs_on π rows (pairs rows (length rows)).end (pairs rows (length rows)).head room [] p
stop_from π rows room (over e i s c) = record { stand = stops_here (record { row = i; phase = fresh; now = s; tally = c }) e i s c; cues = [] }

-- a machine by a state that 21 has passed, with at most 1,000,000 ticks more: it goes on, waits at a pick, or is finished; its counts leave room
pub record MayPlay (text : List ℕ) (script : PricedRows) (t : List ℕ) (m : Machine) (store : List ℤ) (picks : List ℕ) (counts : List (List ℕ)) : Type 0 where
  pub runs : Runs text t script.count (length store)
  pub price : 1 ≤ script.prices.test
  pub tests : m.status ≡ Going → m.testing ≡ true → EndsLoop (script_in text t script.count) m.row
  pub waits : (i : ℕ) → m.status ≡ Over NoPick i → (i ≡ m.row) × (m.row < script.count) × (view_at (script_in text t script.count) m.row ≡ is_pick)
  pub no_spent : (i : ℕ) → m.status ≡ Over Spent i → ⊥
  pub unused : m.used ≡ 0
  pub long : length counts ≡ 16
  pub few : m.left ≤ 1_001_000
  pub counted : (p : ℕ)
      → ((tally_of (loop_rows 0 (script_in text t script.count)) counts).turns p ≤ 1_000_000_000_001)
      × ((tally_of (loop_rows 0 (script_in text t script.count)) counts).sum p ≤ 1_000_000_000_001)

-- it has stopped at r
pub record Played (π : Prices) (rows : List RowKind) (m : Machine) (r : Stopped) (store store' : List ℤ) (picks : List ℕ) (counts counts' : List (List ℕ)) (cues cues' : List ℕ)
    : Type 0 where
  pub stop : stop_from π rows (length cues) (ready_by (suc ((pairs rows (length rows)).end m.row)) m.status (place_in rows m store picks counts))
      ≡ record { stand = stood_by r.full r.machine.status r.machine store' picks (tally_of (loop_rows 0 rows) counts'); cues = take r.fired cues' }
  pub over : r.full ≡ false → is_going r.machine.status ≡ false
  pub spent : (i : ℕ) → r.machine.status ≡ Over Spent i
      → row_of_next (next π rows (pairs rows (length rows)).end (pairs rows (length rows)).head (place_in rows r.machine store' picks counts')) ≡ i
  pub few : r.fired ≤ length cues
  pub rest : drop r.fired cues' ≡ drop r.fired cues
  pub long : length cues' ≡ length cues
  pub left : r.machine.left ≤ m.left
  pub used : r.machine.used ≤ length picks
  pub room : Room rows counts'

-- ---- how it is left
-- the row that is answered
abbrev pub row_stopped : Bool → Status → Machine → ℕ
row_stopped true z m = m.row
row_stopped false Going m = m.row
row_stopped false (Over e i) m = i

-- the numbers of what is kept of a standing
pub record SettledAs (full : Bool) (z : Status) (m : Machine) (carried : ℕ) (r : Settled) : Type 0 where
  pub told : (store : List ℤ) (picks : List ℕ) (c : TurnCounts)
      → let a : Stand = keeps carried (stood_by full z m store picks c) in
      (r.status ≡ status_number a) × (r.at ≡ place_row a) × (due_number r.due ≡ phase_at a) × (r.left ≡ carried_at a)
  pub row : r.row ≡ row_stopped full z m
