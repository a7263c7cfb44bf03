-- What a run answers.
use Rattle.std.specs.Prelude.{◌≡◌, List, ℕ, ◌-◌, ◌≤◌, length, ℤ}
use Rattle.rules.specs.declared.Ending.TheVariants.{Spent}
use Rattle.rules.specs.declared.Prices.{Prices}
use Rattle.rules.specs.Blocks.{RowKind}
use Rattle.rules.specs.Answers.{Answer, run_tree, store_list, sum_at, most_at}
use Rattle.rules.specs.Calls.{loop_rows}
use Rattle.rules.specs.Scripts.{store_of, tree_of}
use Rattle.rules_machine.specs.RowMachine.{TurnCounts}
use Rattle.run_actions.specs.declared.Machine.{Machine}
use Rattle.run_actions.specs.declared.Status.{Status}
use Rattle.run_actions.specs.declared.Status.TheVariants.{Going, Over}
use Rattle.run_actions.specs.States.{count_in, tally_of}
use Rattle.run_machine.specs.Steps.{Runs, Room}
use Rattle.runner.specs.declared.Ran.{Ran}

-- the run of the rows from a store
abbrev pub run_of : Prices → List RowKind → List ℤ → List ℕ → ℕ → Answer
run_of π rows store picks allowance = run_tree π (length rows) (tree_of rows) (store_of store) picks allowance

-- every count is 0
pub record Cleared (counts : List (List ℕ)) : Type 0 where
  pub zero : (k j : ℕ) → count_in counts k j ≡ 0
  pub long : length counts ≡ 16

-- the answer's parts
abbrev pub ran_by : Status → Machine → ℕ → Ran
ran_by Going m allowance = record { ending = Spent; row = m.row; ticks = allowance - m.left; used = m.used }
ran_by (Over e i) m allowance = record { ending = e; row = i; ticks = allowance - m.left; used = m.used }

-- the answer of a machine's run
abbrev pub ran_of : Machine → ℕ → Ran
ran_of m allowance = ran_by m.status m allowance

-- a script in a table that may be run from the start, with a price for each test and at most 1,000,000,000,000 ticks
pub record MayRun (text : List ℕ) (π : Prices) (t : List ℕ) (count : ℕ) (store : List ℤ) (allowance : ℕ) : Type 0 where
  pub script : Runs text t count (length store)
  pub price : 1 ≤ π.test
  pub ticks : allowance ≤ 1_000_000_000_000

-- the answer, the store of `vars` variables, and the counts by row are a's
pub record AnsweredBy (a : Answer) (r : Ran) (vars : ℕ) (store : List ℤ) (c : TurnCounts) : Type 0 where
  pub ending : r.ending ≡ a.ending
  pub row : r.row ≡ a.row
  pub ticks : r.ticks ≡ a.ticks
  pub used : r.used ≡ a.used
  pub final : store ≡ store_list vars a.store
  pub sums : (p : ℕ) → c.sum p ≡ sum_at p a.entries
  pub mosts : (p : ℕ) → c.most p ≡ most_at p a.entries

-- the answer, the store, and the counts of the loops are those of the run
pub record Answered (π : Prices) (rows : List RowKind) (allowance : ℕ) (picks : List ℕ) (r : Ran) (store store' : List ℤ) (counts' : List (List ℕ)) : Type 0 where
  pub told : AnsweredBy (run_of π rows store picks allowance) r (length store) store' (tally_of (loop_rows 0 rows) counts')
  pub room : Room rows counts'
