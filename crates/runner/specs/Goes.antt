-- What the loop over the machine's steps in a live run asks and ensures.
use Rattle.std.specs.Prelude.{◌≡◌, Bool, true, false, List, [], ℕ, suc, ◌≤◌, ◌<◌, length, take, drop, set, ℤ}
use Rattle.rules.specs.declared.Ending.TheVariants.{Spent}
use Rattle.rules.specs.declared.Prices.{Prices}
use Rattle.rules.specs.Blocks.{RowKind}
use Rattle.rules.specs.Calls.{loop_rows}
use Rattle.rules_machine.specs.RowMachine.{TurnCounts, next, pairs}
use Rattle.rules_live.specs.Live.{Stand, going, full, stops_here, runs_on, row_of_next}
use Rattle.table.specs.Code.{number, op_in}
use Rattle.table.specs.declared.PricedRows.{PricedRows}
use Rattle.run_actions.specs.declared.Machine.{Machine}
use Rattle.run_actions.specs.declared.Status.{Status}
use Rattle.run_actions.specs.declared.Status.TheVariants.{Going, Over}
use Rattle.run_actions.specs.States.{tally_of, state_of, place_of, is_going}
use Rattle.run_machine.specs.Rows.{row_of}
use Rattle.run_machine.specs.Steps.{Room, EndsLoop}
use Rattle.runner.specs.Runs.{place_in, MayGo, WentOn}
use Rattle.runner.specs.declared.live.Stop.{Stop}
use Rattle.runner.specs.declared.live.Begin.{Begin}

-- the op of a cue row
abbrev pub cue_op : ℕ
cue_op = 11

-- what is done with the cue of the machine's row: it is none, cues are not listed, or its price does not fit; it is put at the end of the list,
-- which has n then, or finds it full
pub data CuePut (listed : Bool) (t : List ℕ) (price : ℕ) (m : Machine) (cues cues' : List ℕ) (fired n : ℕ) (b : Bool) : Type 0 where
  no_cue : (op_in (row_of t m) ≡ cue_op → ⊥) → n ≡ fired → b ≡ false → cues' ≡ cues → CuePut listed t price m cues cues' fired n b
  unlisted : listed ≡ false → n ≡ fired → b ≡ false → cues' ≡ cues → CuePut listed t price m cues cues' fired n b
  dear : op_in (row_of t m) ≡ cue_op → m.left < price → n ≡ fired → b ≡ false → cues' ≡ cues → CuePut listed t price m cues cues' fired n b
  last : op_in (row_of t m) ≡ cue_op → price ≤ m.left → fired < length cues → n ≡ suc fired → b ≡ false → cues' ≡ set cues fired (number (row_of t m) 3)
      → CuePut listed t price m cues cues' fired n b
  no_room : listed ≡ true → op_in (row_of t m) ≡ cue_op → price ≤ m.left → length cues ≤ fired → b ≡ true → cues' ≡ cues → CuePut listed t price m cues cues' fired n b

-- a machine that is going may go on to the end
abbrev pub MayGoLive : List ℕ → PricedRows → List ℕ → Machine → List ℤ → List ℕ → List (List ℕ) → Type 0
MayGoLive text script t m store picks counts = MayGo text script.prices t script.count m store picks counts

-- where it has stopped: before a cue, the list full; or by its status
abbrev pub stood_by : Bool → Status → Machine → List ℤ → List ℕ → TurnCounts → Stand
stood_by true status m store picks c = full (place_of m store picks c)
stood_by false Going m store picks c = going (place_of m store picks c)
stood_by false (Over e i) m store picks c = stops_here (place_of m store picks c) e i (state_of m store picks) c

-- it has gone on to r: "Each cue row that is done puts its number at the end of the list, in order; numbers past them keep their values"
pub record WentLive (π : Prices) (rows : List RowKind) (m : Machine) (r : Stop) (store store' : List ℤ) (picks : List ℕ) (counts counts' : List (List ℕ)) (cues cues' : List ℕ)
    : Type 0 where
  pub stop : runs_on π rows (pairs rows (length rows)).end (pairs rows (length rows)).head (length cues) [] (place_in rows m store picks counts)
      ≡ record { stand = stood_by r.full r.machine.status r.machine store' picks (tally_of (loop_rows 0 rows) counts'); cues = take r.fired cues' }
  pub over : r.full ≡ false → is_going r.machine.status ≡ false
  pub few : r.fired ≤ length cues
  pub rest : drop r.fired cues' ≡ drop r.fired cues
  pub long : length cues' ≡ length cues
  pub before_cue : r.full ≡ true → r.machine.testing ≡ false
  pub waits : (i : ℕ) → r.machine.status ≡ Over Spent i → r.machine.testing ≡ true → EndsLoop rows r.machine.row
  pub spent : (i : ℕ) → r.machine.status ≡ Over Spent i
      → row_of_next (next π rows (pairs rows (length rows)).end (pairs rows (length rows)).head (place_in rows r.machine store' picks counts')) ≡ i
  pub left : r.machine.left ≤ m.left
  pub used : r.machine.used ≤ length picks
  pub room : Room rows counts'

-- it has gone on: with its cues listed as a live run, else as a run, which no list stops
pub record Went (π : Prices) (rows : List RowKind) (m : Begin) (r : Stop) (store store' : List ℤ) (picks : List ℕ) (counts counts' : List (List ℕ)) (cues cues' : List ℕ) : Type 0 where
  pub live : m.listed ≡ true → WentLive π rows m.machine r store store' picks counts counts' cues cues'
  pub run : m.listed ≡ false → WentOn π rows m.machine r.machine store store' picks counts counts'
