-- The rows by their numbers: what each asks, and what it does.
use Rattle.std.specs.Prelude.{◌≡◌, true, false, List, ℕ, ◌+◌, ◌*◌, ◌<◌, ℤ, length, get_or}
use Rattle.rules.specs.declared.Operand.{Operand}
use Rattle.rules.specs.declared.Prices.{Prices}
use Rattle.rules.specs.Blocks.{from, changed, off, Plain, assign, expr_of}
use Rattle.rules.specs.Run.{exec, result}
use Rattle.rules.specs.Scripts.{store_of, ExprBelow, ChangeLimits}
use Rattle.rules.specs.Values.{value}
use Rattle.rules.specs.Values
use Rattle.rules.specs.Written.{WrittenOperand}
use Rattle.rules_machine.specs.RowMachine.{TurnCounts, begin, turn, testing, to, outcome}
use Rattle.table.specs.Code.{operand_in, change_in, number, variable_in, comparison_by, comparison_in, partner_in, step_in, watched_in, against_in, numbers_at}
use Rattle.table.specs.Packing.{IsComparison}
use Rattle.values.specs.Results.{result_in}
use Rattle.run_actions.specs.declared.Machine.{Machine}
use Rattle.run_actions.specs.States.{tally_of, Rising, RoomAt, EntryBegun, state_of, on_at, plain_to, Acts}

-- the numbers of the machine's row
abbrev pub row_of : List ℕ → Machine → List ℕ
row_of t m = numbers_at t m.row

-- the number of the loop that it begins, from the row that ends it
abbrev pub loop_of : List ℕ → Machine → ℕ
loop_of t m = number (numbers_at t (partner_in (row_of t m))) 1

-- a set, or a for's start, of an operand of this kind
abbrev pub set_of : List ℕ → ℕ → List ℕ → Plain
set_of text kind e = assign (variable_in e) (from (expr_of text (operand_in kind (number e 1))))

-- an arithmetic row, of a change of this kind
abbrev pub move_of : ℕ → List ℕ → Plain
move_of kind e = assign (variable_in e) (changed (change_in kind (number e 3)))

-- an off
abbrev pub off_of : List ℕ → Plain
off_of e = assign (variable_in e) (off (watched_in e) (comparison_by (comparison_in e)) (against_in e))

-- ---- what they ask
-- row i is in the table, its variable in the store
pub record InTable (i : ℕ) (t : List ℕ) (vars : ℕ) : Type 0 where
  pub small : i < 256
  pub size : 4 * i + 3 < length t
  pub variable : variable_in (numbers_at t i) < vars

-- an operand that can be read
pub record Readable (text : List ℕ) (vars : ℕ) (x : Operand) : Type 0 where
  pub written : WrittenOperand text x
  pub below : ExprBelow vars (expr_of text x)

-- a set, or a for's start
pub record SetRow (kind : ℕ) (m : Machine) (text t : List ℕ) (vars : ℕ) : Type 0 where
  pub row : InTable m.row t vars
  pub operand : Readable text vars (operand_in kind (number (row_of t m) 1))

-- an arithmetic row
pub record MoveRow (kind : ℕ) (m : Machine) (t : List ℕ) (vars : ℕ) : Type 0 where
  pub row : InTable m.row t vars
  pub change : ChangeLimits (change_in kind (number (row_of t m) 3))

-- a for's step
pub record StepRow (m : Machine) (t : List ℕ) (vars : ℕ) : Type 0 where
  pub row : InTable m.row t vars
  pub change : ChangeLimits (step_in (row_of t m))

-- an off
pub record OffRow (i : ℕ) (t : List ℕ) (vars : ℕ) : Type 0 where
  pub row : InTable i t vars
  pub watched : watched_in (numbers_at t i) < vars
  pub code : IsComparison (comparison_in (numbers_at t i))

-- a loop's head: the row that ends it, and room for a turn
pub record LoopRow (m : Machine) (t : List ℕ) (counts : List (List ℕ)) : Type 0 where
  pub small : m.row < 256
  pub size : 4 * m.row + 3 < length t
  pub end : 4 * partner_in (row_of t m) + 3 < length t
  pub room : RoomAt (loop_of t m) counts

-- a for
pub record ForRow (kind : ℕ) (m : Machine) (text t : List ℕ) (vars : ℕ) (counts : List (List ℕ)) : Type 0 where
  pub start : SetRow kind m text t vars
  pub loop : LoopRow m t counts

-- ---- what they do
-- r is what an operand comes to, as one number
abbrev pub ReadAs : List ℕ → List ℤ → Operand → ℤ → Type 0
ReadAs text store x r = result_in r ≡ value (expr_of text x) (store_of store)

-- what an off's flag holds after it
abbrev pub HeldAfter : List ℤ → List ℕ → ℤ → Type 0
HeldAfter store e z = Values.number z ≡ result (off (watched_in e) (comparison_by (comparison_in e)) (against_in e)) (store_of store (variable_in e)) (store_of store)

-- a plain row, and on to the next
abbrev pub Does : Prices → Machine → Machine → List ℤ → List ℤ → Plain → Type 0
Does π m r store store' p = (picks : List ℕ) (c : TurnCounts) → Acts m r store' picks c (plain_to π m.row p (m.row + 1) false (state_of m store picks) c)

-- a set
abbrev pub SetDone : Prices → ℕ → Machine → Machine → List ℕ → List ℕ → List ℤ → List ℤ → Type 0
SetDone π kind m r text t store store' = Does π m r store store' (set_of text kind (row_of t m))

-- a for's step, and on to its test
abbrev pub StepDone : Prices → Machine → Machine → List ℤ → List ℤ → List ℕ → Type 0
StepDone π m r store store' e =
    (picks : List ℕ) (c : TurnCounts) → Acts m r store' picks c (plain_to π (partner_in e) (assign (variable_in e) (changed (step_in e))) m.row true (state_of m store picks) c)

-- a for's start, and on to its test: the entry begins once the start has succeeded
pub record ForBegun (π : Prices) (kind : ℕ) (m r : Machine) (text t : List ℕ) (store store' : List ℤ) (counts counts' : List (List ℕ)) : Type 0 where
  pub long : length counts' ≡ 16
  pub acts : (picks heads : List ℕ) → Rising heads → loop_of t m < length heads
      → Acts m r store' picks (tally_of heads counts')
      (outcome (exec π m.row (set_of text kind (row_of t m)) (state_of m store picks)) (tally_of heads counts)
      (λ u. to (partner_in (row_of t m)) testing u (begin (get_or heads (loop_of t m) 0) (tally_of heads counts))))

-- a do: its first turn begins
pub record DoBegun (m r : Machine) (t : List ℕ) (counts counts' : List (List ℕ)) : Type 0 where
  pub long : length counts' ≡ 16
  pub machine : r ≡ on_at m m.left (m.row + 1) false
  pub same : (heads : List ℕ) → Rising heads → loop_of t m < length heads
      → tally_of heads counts' ≡ turn (get_or heads (loop_of t m) 0) (begin (get_or heads (loop_of t m) 0) (tally_of heads counts))

-- a while or a hold: on to its test
pub record WhileBegun (m r : Machine) (t : List ℕ) (counts counts' : List (List ℕ)) : Type 0 where
  pub machine : r ≡ on_at m m.left (partner_in (row_of t m)) true
  pub entry : EntryBegun (loop_of t m) counts counts'
