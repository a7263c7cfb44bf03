-- The kinds of loops in documents 01 and 02's words: which are those of changes 1, 5 and 12; every other is of a base kind.
use Rattle.std.specs.Prelude.{◌≡◌, ◌↔◌, Bool, not, ◌&&◌, ℕ, T, ℤ}
use Rattle.rules.specs.declared.Comparison.{Comparison}
use Rattle.rules.specs.Expressions.{variable}
use Rattle.rules.specs.Values.{opposite}
use Rattle.rules.specs.Blocks.{Source, from, off, assign, Test, Form, while, do_while, hold, for, Block, done, plain, pick, loop}
use Rattle.rules.specs.Steps.{assigns, step, is_add}
use Rattle.rules.specs.Ranges.{Range, Env, full, bounds, edge, is_do, ordered, sort, inside_range, outside_range}
use Rattle.rules.specs.Trips.{Way, own, broken, copied, chase, watched, way_of, loop_env, inside, outside}
use Rattle.rules.specs.Yes.{Moves, Fitting}

-- the rows of one block and then those of another
unfoldable pub onto : Block → Block → Block
onto done b = b
onto (plain i p rest) b = plain i p (onto rest b)
onto (pick i e x y rest) b = pick i e x y (onto rest b)
onto (loop i e form test body rest) b = loop i e form test body (onto rest b)

-- v gets x in one row, directly in the body, and is not assigned before or after it; what is said of w and of the rows before and after
pub record Only (v : ℕ) (x : Source) (body : Block) : Type 0 where
  pub before : Block
  pub row : ℕ
  pub after : Block
  pub is : body ≡ onto before (plain row (assign v x) after)
  pub not_before : T (not (assigns v before))
  pub not_after : T (not (assigns v after))

-- a while or a do
abbrev pub IsWhileOrDo : Form → Type 0
IsWhileOrDo while = Unit {0}
IsWhileOrDo do_while = Unit {0}
IsWhileOrDo hold = ⊥
IsWhileOrDo (for x) = ⊥

-- not a hold
abbrev pub NotHold : Form → Type 0
NotHold while = Unit {0}
NotHold do_while = Unit {0}
NotHold hold = ⊥
NotHold (for x) = Unit {0}

-- a hold
abbrev pub IsHold : Form → Type 0
IsHold while = ⊥
IsHold do_while = ⊥
IsHold hold = Unit {0}
IsHold (for x) = ⊥

-- change 1: "`set v w`, w another variable, as v's only assignment, directly in a while or do body, where w's step is a moving Add, all of w's rows stand on
-- one side of it, and the comparison is < <= > or >="; `ahead`: "w's rows come first"
pub record CopyTerms (form : Form) (test : Test) (body : Block) (w : ℕ) (ahead : Bool) : Type 0 where
  pub kind : IsWhileOrDo form
  pub only : Only test.tested (from (variable w)) body
  pub another : w ≡ test.tested → ⊥
  pub adds : T (is_add (step w body))
  pub moves : Moves (step w body)
  pub one_side : T (not (assigns w only.before && assigns w only.after))
  pub compared : T (ordered (sort test.comparison))
  pub first : assigns w only.before ≡ ahead

-- change 5: "a limit variable, other than the tested one, that the body assigns and whose step is Add, with an Add step of its own on the tested one (so not card 1)
-- and < <= > or >="
pub record ChaseTerms (form : Form) (test : Test) (body : Block) (w : ℕ) : Type 0 where
  pub kind : NotHold form
  pub limit : test.limit ≡ variable w
  pub another : w ≡ test.tested → ⊥
  pub assigned : T (assigns w body)
  pub adds : T (is_add (step w body))
  pub own_adds : T (is_add (step test.tested body))
  pub compared : T (ordered (sort test.comparison))

-- change 12: "The hold's body has exactly one off for its flag, directly in it; the flag is otherwise unassigned there; the watched variable is another one, moves by
-- Add toward the comparison, and all its rows stand on one side of the off"
pub record HoldTerms (form : Form) (test : Test) (body : Block) (w : ℕ) (c : Comparison) (k : ℤ) (ahead : Bool) : Type 0 where
  pub kind : IsHold form
  pub only : Only test.tested (off w c k) body
  pub another : w ≡ test.tested → ⊥
  pub compared : T (ordered (sort (opposite c)))
  pub adds : T (is_add (step w body))
  pub toward : Fitting (step w body) (sort (opposite c))
  pub one_side : T (not (assigns w only.before && assigns w only.after))
  pub first : assigns w only.before ≡ ahead

-- a loop is of each kind exactly under its terms
unfoldable pub KindsExact : Type 0
KindsExact =
    (form : Form) (test : Test) (body : Block) (w : ℕ)
    → ((ahead : Bool) → (way_of form test body ≡ copied w ahead) ↔ CopyTerms form test body w ahead)
    × ((way_of form test body ≡ chase w) ↔ ChaseTerms form test body w)
    × ((c : Comparison) (k : ℤ) (ahead : Bool) → (way_of form test body ≡ watched w c k ahead) ↔ HoldTerms form test body w c k ahead)

-- ---- the tested variable's range over a loop, by the loop's kind
-- at the body's start: document 01's; "[−L,L] at the body's start and after the loop" in loops of changes 1, 5 and 12
abbrev pub inner_by : Way → Form → Env → Test → Range
inner_by own form ρ test = inside_range (is_do form) (sort test.comparison) (ρ test.tested) (edge test.comparison (bounds ρ test.limit))
inner_by broken form ρ test = inside_range (is_do form) (sort test.comparison) (ρ test.tested) (edge test.comparison (bounds ρ test.limit))
inner_by (copied w ahead) form ρ test = full
inner_by (chase w) form ρ test = full
inner_by (watched w c k ahead) form ρ test = full

-- after the loop
abbrev pub outer_by : Way → Env → Test → Block → Range
outer_by own ρ test body = outside_range (step test.tested body) (sort test.comparison) (ρ test.tested)
outer_by broken ρ test body = outside_range (step test.tested body) (sort test.comparison) (ρ test.tested)
outer_by (copied w ahead) ρ test body = full
outer_by (chase w) ρ test body = full
outer_by (watched w c k ahead) ρ test body = full

-- the ranges inside and after a loop are these, and no trip is read
unfoldable pub RangesByKind : Type 0
RangesByKind =
    (form : Form) (ρ : Env) (test : Test) (body : Block)
    → (inside form ρ test body ≡ loop_env (inner_by (way_of form test body) form ρ test) ρ test body)
    × (outside form ρ test body ≡ loop_env (outer_by (way_of form test body) ρ test body) ρ test body)
