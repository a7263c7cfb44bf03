-- Demand 2, from the loop itself: the TURNS of each line are those of its loop's worst entry, stepped from the loop's form, the ranges at its start,
-- its test and its body. No trip and no closed figure is read here.
use Rattle.std.specs.Prelude.{◌≡◌, Bool, not, cond, ◌&&◌, List, [], ◌∷◌, ◌++◌, ℕ, suc, T, ℤ}
use Rattle.rules.specs.declared.Comparison.{Comparison}
use Rattle.rules_steps.specs.declared.Step.{Step}
use Rattle.rules.specs.Values.{compares, upward, opposite}
use Rattle.rules.specs.Blocks.{RowKind, Last, is_loop, view_at, with_last, block_at, Test, Form, Block, done, plain, pick, loop, while, do_while, hold, for}
use Rattle.rules.specs.Steps.{step, difference}
use Rattle.rules.specs.Ranges.{Env, bounds, after_row, join, at_start, ordered, sort}
use Rattle.rules.specs.Trips.{Way, own, broken, copied, chase, watched, way_of, is_zero, inside, outside, after}
use Rattle.rules.specs.Figures.{Line}
use Rattle.rules.specs.Scripts.{All, Pairwise, Script, start_env, tree_of, report_lines}
use Rattle.rules.specs.Calls.{accepted, judged}
use Rattle.rules.specs.Count.{worst_start, worst_limit, worst_move}

-- where an entry stands: before its test, or before its body
pub data Place : Type 0 where
  at_a_test at_body : Place

-- an entry that stands there with its variables at x takes n turns more. A test that fails ends it, one that passes leads to the body; a turn counts when
-- its body begins, moves the variables, and leads to the test
pub data Stepped {S : Type 0} (test : S → Bool) (move : S → S) : Place → S → ℕ → Type 0 where
  leaves : {x : S} → T (not (test x)) → Stepped test move at_a_test x 0
  enters : {x : S} {n : ℕ} → T (test x) → Stepped test move at_body x n → Stepped test move at_a_test x n
  takes : {x : S} {n : ℕ} → Stepped test move at_a_test (move x) n → Stepped test move at_body x (suc n)

-- where an entry begins: a while, a hold and a for (after its start) before the test; a do is "tested after the body"
abbrev pub begins : Form → Place
begins while = at_a_test
begins do_while = at_body
begins hold = at_a_test
begins (for x) = at_a_test

-- the tested variable and another
pub record Two : Type 0 where
  pub tested : ℤ
  pub second : ℤ

-- change 12: the flag is not 0; the watched variable
pub record Flagged : Type 0 where
  pub on : Bool
  pub watched : ℤ

-- the worst entry of a loop takes n turns; ρ the ranges at its start
module _ (form : Form) (ρ : Env) (test : Test) (body : Block) where
  -- a base kind: the tested variable v from the worst end of its range (s.lo for < <=, s.hi for > >=), by the slowest step of v over the body (+ a, + b, · f,
  -- / f rounded down), against the loosest limit (n.hi for < <=, n.lo for > >=)
  abbrev pub OwnTurns : ℕ → Type 0
  OwnTurns n =
      let up : Bool = upward test.comparison in
      Stepped (λ x. compares test.comparison x (worst_limit up (bounds ρ test.limit))) (worst_move up (step test.tested body)) (begins form) (worst_start up (ρ test.tested)) n

  -- change 1, w copied into v, after w's rows if `ahead`: "test v's best start first (a do takes its first turn untested), then the copies of w's worst"
  abbrev pub CopiedTurns : ℕ → Bool → ℕ → Type 0
  CopiedTurns w ahead n =
      let up : Bool = upward test.comparison in
      let move : ℤ → ℤ = worst_move up (step w body) in
      Stepped (λ (s : Two). compares test.comparison s.tested (worst_limit up (bounds ρ test.limit)))
      (λ s. record { tested = cond ahead (move s.second) s.second; second = move s.second })
      (begins form) (record { tested = worst_start up (ρ test.tested); second = worst_start up (ρ w) }) n

  -- change 5, w the limit: v from its worst end by its slowest step, w from its loosest end by its step that is worst for v: its most for < <=, its least for > >=
  abbrev pub ChasedTurns : ℕ → ℕ → Type 0
  ChasedTurns w n =
      let up : Bool = upward test.comparison in
      Stepped (λ (s : Two). compares test.comparison s.tested s.second)
      (λ s. record { tested = worst_move up (step test.tested body) s.tested; second = worst_move (not up) (step w body) s.second })
      (begins form) (record { tested = worst_start up (ρ test.tested); second = worst_limit up (ρ w) }) n

  -- change 12: the flag, not 0 unless its range is [0,0], is tested first; the off sees w moved if `ahead`, and clears the flag if w c k
  abbrev pub HeldTurns : ℕ → Comparison → ℤ → Bool → ℕ → Type 0
  HeldTurns w c k ahead n =
      let up : Bool = upward (opposite c) in
      let move : ℤ → ℤ = worst_move up (step w body) in
      Stepped (λ (s : Flagged). s.on)
      (λ s. record { on = s.on && not (compares c (cond ahead (move s.watched) s.watched) k); watched = move s.watched })
      at_a_test (record { on = not (is_zero (ρ test.tested)); watched = worst_start up (ρ w) }) n

  -- by its kind; a base kind's turns are counted for < <= > >=. A hold that breaks its terms is refused
  abbrev pub TurnsBy : Way → ℕ → Type 0
  TurnsBy own n = T (ordered (sort test.comparison)) → OwnTurns n
  TurnsBy (copied w ahead) n = CopiedTurns w ahead n
  TurnsBy (chase w) n = ChasedTurns w n
  TurnsBy (watched w c k ahead) n = HeldTurns w c k ahead n
  TurnsBy broken n = ⊥

  -- the step that its line shows: the tested variable's, the copied one's, the difference's or the watched one's
  abbrev pub step_along : Way → Step
  step_along own = step test.tested body
  step_along (copied w ahead) = step w body
  step_along (chase w) = difference (step test.tested body) (step w body)
  step_along (watched w c k ahead) = step w body
  step_along broken = step test.tested body

-- a loop of a script: its head row, and what stands there
pub record LoopAt : Type 0 where
  pub row : ℕ
  pub form : Form
  pub start : Env
  pub test : Test
  pub body : Block

-- the loops of a block, in row order, each with the ranges at its start
unfoldable pub loops_in : Env → Block → List LoopAt
loops_in ρ done = []
loops_in ρ (plain i p rest) = loops_in (after_row ρ p) rest
loops_in ρ (pick i e a b rest) = loops_in ρ a ++ (loops_in ρ b ++ loops_in (join (after ρ a) (after ρ b)) rest)
loops_in ρ (loop i e form test body rest) =
    record { row = i; form = form; start = at_start form test ρ; test = test; body = body }
    ∷ (loops_in (inside form (at_start form test ρ) test body) body ++ loops_in (outside form (at_start form test ρ) test body) rest)

-- a loop and the rows of the file: its head row says its form and test, and its body is the block after that row, with a for's step row at its end
pub record FromRow (rows : List RowKind) (l : LoopAt) : Type 0 where
  pub last : Last
  pub head : view_at rows l.row ≡ is_loop l.form l.test last
  pub body : l.body ≡ with_last last l.row (block_at rows (suc l.row))

-- the loops of a script are those of its rows
unfoldable pub LoopsFromRows : Type 0
LoopsFromRows = (script : Script) → All (FromRow script.rows) (loops_in (start_env script.ranges) (tree_of script.rows))

-- a loop's line: its row, its step, and the turns of its worst entry
pub record SteppedLine (l : LoopAt) (line : Line) : Type 0 where
  pub row : line.row ≡ l.row
  pub step : line.step ≡ step_along l.form l.start l.test l.body (way_of l.form l.test l.body)
  pub turns : TurnsBy l.form l.start l.test l.body (way_of l.form l.test l.body) line.turns

-- the report's lines, one for each loop, for every accepted file
unfoldable pub LinesStepped : Type 0
LinesStepped =
    (prices : List ℕ) (scratch : ℕ) (file : List ℕ) (script : Script) → judged prices scratch file ≡ accepted script
    → Pairwise SteppedLine (loops_in (start_env script.ranges) (tree_of script.rows)) (report_lines script)

-- an entry's turns are one number: no other can be counted
unfoldable pub SteppedOnce : Type 1
SteppedOnce = (S : Type 0) (test : S → Bool) (move : S → S) (at : Place) (x : S) (m n : ℕ) → Stepped test move at x m → Stepped test move at x n → m ≡ n
