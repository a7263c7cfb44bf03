-- The state in code: what its questions ask of the script, what its numbers say, and what is written.
use Rattle.std.specs.Prelude.{◌≡◌, Bool, true, false, cond, not, List, [], ◌∷◌, ◌++◌, ℕ, zero, suc, ◌+◌, ◌-◌, ◌*◌, ◌≤◌, ◌<◌, min, leb, eqb, length, drop, replicate}
use Rattle.rules.specs.declared.Ending.{Ending}
use Rattle.rules.specs.declared.Ending.TheVariants.{Ended, NoPick}
use Rattle.rules.specs.declared.Prices.{Prices}
use Rattle.rules.specs.Blocks.{View, is_plain, is_pick, is_else, is_end, is_loop, view_at}
use Rattle.rules.specs.Figures.{Line}
use Rattle.rules.specs.Scripts.{Script, report_ticks, report_lines}
use Rattle.rules_live.specs.Live.{matching_head}
use Rattle.rules_live.specs.LiveState.{at, ends_loop, loop_numbers}
use Rattle.table.specs.Code.{rows_of}
use Rattle.table.specs.Paired.{script_rows, Table}
use Rattle.analysis_lines.specs.Coded.{first_lines}
use Rattle.run_actions.specs.declared.Machine.{Machine}
use Rattle.run_actions.specs.declared.Status.{Status}
use Rattle.run_actions.specs.declared.Status.TheVariants.{Going, Over}
use Rattle.run_actions.specs.States.{tally_of, Rising}
use Rattle.run_loops.specs.declared.Loops.{Loops}
use Rattle.run_loops.specs.Loops.{HeadCounts}
use Rattle.live_state.specs.declared.Standing.{Standing}

-- ---- 21
-- an `end`
abbrev pub is_end_number : View → Bool
is_end_number (is_plain p) = false
is_end_number is_pick = false
is_end_number is_else = false
is_end_number is_end = true
is_end_number (is_loop form test last) = false

-- the `end` of a loop
abbrev pub ends_loop_at : Script → ℕ → Bool
ends_loop_at script i = ends_loop (view_at script.rows i) (view_at script.rows (matching_head script i))

-- the script whose rows are in the table
pub record RowsIn (script : Script) (t : List ℕ) (count : ℕ) : Type 0 where
  pub text : List ℕ
  pub rows : script.rows ≡ script_rows text (rows_of t) count
  pub size : count ≤ 256
  pub table : Table text (rows_of t) count t

-- its report's ticks, and its lines in a table
pub record StateAsked (π : Prices) (script : Script) (t : List ℕ) (count total : ℕ) (table : List (List ℕ)) (loops : ℕ) : Type 0 where
  pub rows : RowsIn script t count
  pub ticks : total ≡ report_ticks π script
  pub lines : first_lines table loops ≡ report_lines script
  pub few : loops ≤ 16
  pub long : length table ≡ 16

-- ---- what a state says
-- how a machine stands by the status: full, it goes on
unfoldable pub status_in : ℕ → ℕ → Status
status_in zero i = Going
status_in (suc zero) i = Over NoPick i
status_in (suc (suc zero)) i = Going
status_in (suc (suc (suc zero))) i = Over Ended i
status_in (suc (suc (suc (suc n)))) i = Over Ending.Range i

-- what a step gives it: nothing to a finished one
unfoldable pub given_at : ℕ → ℕ → ℕ
given_at status q = cond (leb status 2) q 0

-- a test is due
abbrev pub due_in : ℕ → Bool
due_in n = not (eqb n 0)

-- the machine of a state, with q ticks more
abbrev pub machine_in : List ℕ → ℕ → Machine
machine_in ns q = record { row = at ns 1; testing = due_in (at ns 2); left = at ns 3 + given_at (at ns 0) q; used = 0; status = status_in (at ns 0) (at ns 1) }

-- in each loop no more turns of the current entry than in all
abbrev pub AllHoldTurns : ℕ → List ℕ → Type 0
AllHoldTurns loops ns = (k : ℕ) → k < loops → at ns (16 + 3 * k + 0) ≤ at ns (16 + 3 * k + 1)

-- the counts of so many loops: the turns of the current entry, all turns of those before it, the most in one
unfoldable pub counts_in : ℕ → List ℕ → List (List ℕ)
counts_in zero ns = []
counts_in (suc n) ns = (at ns 0 ∷ (at ns 1 - at ns 0) ∷ at ns 2 ∷ []) ∷ counts_in n (drop 3 ns)

-- ---- what is written
-- a test is due
abbrev pub due_number : Bool → ℕ
due_number b = cond b 1 0

-- the first 16 numbers
abbrev pub head_numbers : Standing → ℕ → List ℕ
head_numbers s total =
    s.status ∷ s.row ∷ due_number s.due ∷ s.left ∷ min s.ticks total ∷ min s.used (min s.ticks total) ∷ replicate 10 0

-- the three of a loop, cut to its line
abbrev pub three_numbers : Line → ℕ → ℕ → ℕ → List ℕ
three_numbers l turns all most =
    min turns (min (min most l.turns) (min all l.total)) ∷ min all l.total ∷ min (min most l.turns) (min all l.total) ∷ []

-- they stand behind the first j numbers, in place of three zeros
abbrev pub LoopPut : Line → ℕ → ℕ → ℕ → ℕ → List ℕ → List ℕ → Type 0
LoopPut l turns all most j old new =
    (xs : List ℕ) (n : ℕ) → length xs ≡ j → old ≡ xs ++ replicate (suc (suc (suc n))) 0 → new ≡ (xs ++ three_numbers l turns all most) ++ replicate n 0

-- all 64, with the counts of the loops at these rows
abbrev pub WrittenAs : Standing → ℕ → List Line → Loops → List (List ℕ) → List ℕ → Type 0
WrittenAs s total ls loops counts new =
    (heads : List ℕ) → Rising heads → HeadCounts heads (tally_of heads counts) loops
    → new ≡ head_numbers s total
    ++ (loop_numbers ls heads (tally_of heads counts) ++ replicate (48 - length (loop_numbers ls heads (tally_of heads counts))) 0)
