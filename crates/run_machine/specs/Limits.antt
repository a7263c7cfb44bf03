-- A limit with arithmetic is worked out once an entry of its loop: what is kept of it, by the loop's number.
use Rattle.std.specs.Prelude.{◌≡◌, ◌⊎◌, true, List, ℕ, suc, ◌+◌, ◌*◌, ◌<◌, T, ℤ, pos, length, get_or}
use Rattle.rules.specs.Expressions.{Expr}
use Rattle.rules.specs.Blocks.{RowKind, Form, Test, Last, is_loop, view_at, with_last, block_at, expr_of}
use Rattle.rules.specs.Scripts.{store_of}
use Rattle.rules.specs.Trips.{keeps}
use Rattle.rules.specs.Values.{value}
use Rattle.rules.specs.Written.{Composed}
use Rattle.table.specs.Code.{operand_in, number, partner_in, limit_in, numbers_at}
use Rattle.values.specs.Results.{result_in}
use Rattle.run_actions.specs.declared.Machine.{Machine}
use Rattle.run_actions.specs.States.{is_going}
use Rattle.run_machine.specs.Rows.{row_of, Readable, ReadAs}

-- question 10 of the loops whose limit is neither a constant nor a variable alone: no variable of it is assigned in the body
abbrev pub LimitsUnchanged : List RowKind → Type 0
LimitsUnchanged rows =
    (h : ℕ) → h < length rows → (form : Form) (test : Test) (last : Last) → view_at rows h ≡ is_loop form test last → Composed test.limit
    → T (keeps test.limit (with_last last h (block_at rows (suc h))))

-- the number that stands for no value
abbrev pub not_kept : ℤ
not_kept = pos 5_000_000_000

-- what is kept for loop k
abbrev pub kept_of : List ℤ → ℕ → ℤ
kept_of limits k = get_or limits k (pos 0)

-- nothing is kept of a limit, or what it comes to
pub data Keeps (limit : Expr) (store : List ℤ) (z : ℤ) : Type 0 where
  nothing : z ≡ not_kept → Keeps limit store z
  its_value : Composed limit → result_in z ≡ value limit (store_of store) → Keeps limit store z

-- what is kept for each loop but k is unchanged, and what is kept for k is of this limit
pub record StillKept (limit : Expr) (store : List ℤ) (k : ℕ) (limits limits' : List ℤ) : Type 0 where
  pub long : length limits' ≡ 16
  pub others : (j : ℕ) → (j ≡ k → ⊥) → kept_of limits' j ≡ kept_of limits j
  pub kept : Keeps limit store (kept_of limits' k)

-- an expression that can be read, the limit of loop k
pub record KeptExpression (k x : ℕ) (text : List ℕ) (store limits : List ℤ) : Type 0 where
  pub limit : Readable text (length store) (operand_in 2 x)
  pub loop : k < 16
  pub long : length limits ≡ 16
  pub kept : Keeps (expr_of text (operand_in 2 x)) store (kept_of limits k)

-- it has been read, as r
pub record ExpressionRead (k x : ℕ) (text : List ℕ) (store limits limits' : List ℤ) (r : ℤ) : Type 0 where
  pub read : ReadAs text store (operand_in 2 x) r
  pub still : StillKept (expr_of text (operand_in 2 x)) store k limits limits'

-- the same of the limit of the loop that ends at row i, by its numbers
pub record LimitAt (text t : List ℕ) (i : ℕ) (store limits : List ℤ) : Type 0 where
  pub size : 4 * i + 3 < length t
  pub limit : Readable text (length store) (limit_in (numbers_at t i))
  pub loop : number (numbers_at t i) 1 < 16
  pub long : length limits ≡ 16
  pub kept : Keeps (expr_of text (limit_in (numbers_at t i))) store (kept_of limits (number (numbers_at t i) 1))

pub record LimitRead (text t : List ℕ) (i : ℕ) (store limits limits' : List ℤ) (r : ℤ) : Type 0 where
  pub read : ReadAs text store (limit_in (numbers_at t i)) r
  pub still : StillKept (expr_of text (limit_in (numbers_at t i))) store (number (numbers_at t i) 1) limits limits'

-- what is kept before the test of the loop that ends at m's row
pub record KeptAt (text t : List ℕ) (m : Machine) (store limits : List ℤ) : Type 0 where
  pub long : length limits ≡ 16
  pub kept : Keeps (expr_of text (limit_in (row_of t m))) store (kept_of limits (number (row_of t m) 1))

-- and after it, if the machine goes on: of that loop nothing, or, at its next turn, its limit
pub record TestKept (text t : List ℕ) (m r : Machine) (store limits limits' : List ℤ) : Type 0 where
  pub long : length limits' ≡ 16
  pub others : (j : ℕ) → (j ≡ number (row_of t m) 1 → ⊥) → kept_of limits' j ≡ kept_of limits j
  pub own : is_going r.status ≡ true
      → (kept_of limits' (number (row_of t m) 1) ≡ not_kept)
      ⊎ ((r.row ≡ partner_in (row_of t m) + 1) × Keeps (expr_of text (limit_in (row_of t m))) store (kept_of limits' (number (row_of t m) 1)))
