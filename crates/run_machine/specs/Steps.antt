-- A script in a table that may be run, and one step of the machine over it.
use Rattle.std.specs.Prelude.{◌≡◌, true, false, List, [], ℕ, ◌+◌, ◌≤◌, ◌<◌, ◌^◌, length, ℤ}
use Rattle.rules.specs.declared.Prices.{Prices}
use Rattle.rules.specs.Blocks.{RowKind, is_end, view_at}
use Rattle.rules.specs.Calls.{is_loop_row, loop_rows}
use Rattle.rules.specs.Nesting.{nest, nest_rows}
use Rattle.rules.specs.Scripts.{All, RowLimits, RowBelow}
use Rattle.rules.specs.Written.{Written}
use Rattle.rules_machine.specs.RowMachine.{Place, Next, next, pairs}
use Rattle.table.specs.Code.{rows_of, kind_at}
use Rattle.table.specs.Paired.{script_rows, Table}
use Rattle.run_actions.specs.declared.Machine.{Machine}
use Rattle.run_actions.specs.States.{count_in, tally_of, place_of, Acts}
use Rattle.run_machine.specs.Limits.{LimitsUnchanged}

-- the questions 4 to 7 of rows over so many variables, and 10 as far as a run counts on it
pub record Runnable (vars : ℕ) (rows : List RowKind) : Type 0 where
  pub limits : All RowLimits rows
  pub below : All (RowBelow vars) rows
  pub closed : (n : ℕ) × (nest_rows rows (record { open_blocks = []; loops = 0 }) ≡ nest [] n)
  pub unchanged : LimitsUnchanged rows

-- the rows of a script in a table, beside its text
abbrev pub script_in : List ℕ → List ℕ → ℕ → List RowKind
script_in text t count = script_rows text (rows_of t) count

-- a script in a table, with its expressions in the text, that passes these questions over so many variables
pub record Runs (text t : List ℕ) (count vars : ℕ) : Type 0 where
  pub size : count ≤ 256
  pub table : Table text (rows_of t) count t
  pub written : (i : ℕ) → i < count → Written text (kind_at (rows_of t) i)
  pub runs : Runnable vars (script_in text t count)

-- counts of the loops of these rows, with room for one turn more
pub record Room (rows : List RowKind) (counts : List (List ℕ)) : Type 0 where
  pub long : length counts ≡ 16
  pub turn : (k : ℕ) → k < length (loop_rows 0 rows) → count_in counts k 1 + count_in counts k 0 < 2 ^ 63

-- one step of the rules' machine
abbrev pub step_of : Prices → List RowKind → Place → Next
step_of π rows m = next π rows (pairs rows (length rows)).end (pairs rows (length rows)).head m

-- row e is the `end` of a loop
pub record EndsLoop (rows : List RowKind) (e : ℕ) : Type 0 where
  pub row : e < length rows
  pub end : view_at rows e ≡ is_end
  pub loop : is_loop_row (view_at rows ((pairs rows (length rows)).head e)) ≡ true

-- the machine stands before a row
pub record AtRow (text t : List ℕ) (count : ℕ) (m : Machine) (store : List ℤ) (counts : List (List ℕ)) : Type 0 where
  pub script : Runs text t count (length store)
  pub row : m.row < count
  pub fresh : m.testing ≡ false
  pub room : Room (script_in text t count) counts

-- it stands before the test of the loop that ends at its row
pub record AtTest (text t : List ℕ) (count : ℕ) (m : Machine) (store : List ℤ) (counts : List (List ℕ)) : Type 0 where
  pub script : Runs text t count (length store)
  pub ends : EndsLoop (script_in text t count) m.row
  pub testing : m.testing ≡ true
  pub room : Room (script_in text t count) counts

-- it has done one step
pub record Stepped (π : Prices) (rows : List RowKind) (m r : Machine) (store store' : List ℤ) (picks : List ℕ) (counts counts' : List (List ℕ)) : Type 0 where
  pub acts : Acts m r store' picks (tally_of (loop_rows 0 rows) counts') (step_of π rows (place_of m store picks (tally_of (loop_rows 0 rows) counts)))
  pub long : length counts' ≡ 16
