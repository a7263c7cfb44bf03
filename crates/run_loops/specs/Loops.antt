-- The loops of the rows in row order, with their counts.
use Rattle.std.specs.Prelude.{◌≡◌, List, ℕ, ◌≤◌, length, get_or, take}
use Rattle.rules.specs.declared.LoopCount.{LoopCount}
use Rattle.rules.specs.Calls.{loop_rows}
use Rattle.rules_machine.specs.RowMachine.{TurnCounts, counts_of}
use Rattle.table.specs.Code.{rows_of}
use Rattle.table.specs.Paired.{Table}
use Rattle.run_actions.specs.States.{tally_of}
use Rattle.run_machine.specs.Steps.{script_in, Room}
use Rattle.run_loops.specs.declared.Loops.{Loops}

-- what stands past the last loop
abbrev pub no_count : LoopCount
no_count = record { row = 0; all = 0; most = 0 }

-- no counts from number n on
abbrev pub NoneFrom : ℕ → List LoopCount → Type 0
NoneFrom n counts = (k : ℕ) → n ≤ k → get_or counts k no_count ≡ no_count

-- a script in a table, and counts of its loops
pub record Counted (text t : List ℕ) (count : ℕ) (counts : List (List ℕ)) : Type 0 where
  pub size : count ≤ 256
  pub table : Table text (rows_of t) count t
  pub room : Room (script_in text t count) counts

-- loops with these head rows, and their counts
pub record HeadCounts (heads : List ℕ) (c : TurnCounts) (l : Loops) : Type 0 where
  pub number : l.count ≡ length heads
  pub counts : take l.count l.counts ≡ counts_of c heads
  pub rest : NoneFrom l.count l.counts

-- those of a script, beside any text
abbrev pub LoopsOf : List ℕ → ℕ → List (List ℕ) → Loops → Type 0
LoopsOf t count counts l = (text : List ℕ) → Counted text t count counts → HeadCounts (loop_rows 0 (script_in text t count)) (tally_of (loop_rows 0 (script_in text t count)) counts) l
