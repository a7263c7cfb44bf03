-- Document 01's formulas for totals and ticks, as laws of the figures.
use Rattle.std.specs.Prelude.{◌≡◌, Bool, false, not, ◌||◌, List, [], ◌∷◌, ◌++◌, ℕ, ◌+◌, ◌*◌, ◌≤◌, max, T, eqb, ℤ, pos, ◌+ℤ◌, ◌*ℤ◌}
use Rattle.rules.specs.Expressions.{Expr}
use Rattle.rules.specs.Blocks.{Plain, Test, Form, while, do_while, hold, for, Block, done, plain, pick, loop, snoc}
use Rattle.rules.specs.Steps.{sets, starts, assigns, step, first_end}
use Rattle.rules.specs.Ranges.{Env, after_row, join, at_start}
use Rattle.rules.specs.Trips.{turns, inside, outside, after}
use Rattle.rules.specs.Passes.{Pass, any, valued, later, start_pass, first_pass, triangle, with_limit, sum, sums}
use Rattle.rules.specs.Figures.{ones, loop_ticks, ticks, Line, Round, alike, often, total_of, in_body, line}
use Rattle.rules.specs.Scripts.{All, Script, start_env, tree_of, report_ticks, report_lines}
use Rattle.rules.specs.Calls.{accepted, judged, prices_of}

-- ---- ticks: "every other plain row 1; pick 1 + the larger branch. With N turns and body B: while N(B + 1) + 1; for N(B + 2) + 2; do N(B + 1)", with four ones as prices
-- no loop directly in the block is a triangle over v (change 9)
unfoldable pub NoTriangle : ℕ → Block → Type 0
NoTriangle v done = Unit {0}
NoTriangle v (plain i p rest) = NoTriangle v rest
NoTriangle v (pick i e a b rest) = NoTriangle v rest
NoTriangle v (loop i e form test body rest) = T (not (triangle v form test body)) × NoTriangle v rest

-- the ticks of a block from ρ
abbrev pub one_pass : Env → Block → ℕ
one_pass ρ b = ticks ones any ρ b

-- a plain row
unfoldable pub PlainTicks : Type 0
PlainTicks = (i : ℕ) (p : Plain) (rest : Block) (ρ : Env) → one_pass ρ (plain i p rest) ≡ 1 + one_pass (after_row ρ p) rest

-- a pick
unfoldable pub PickTicks : Type 0
PickTicks =
    (i e : ℕ) (a b rest : Block) (ρ : Env) → one_pass ρ (pick i e a b rest) ≡ 1 + max (one_pass ρ a) (one_pass ρ b) + one_pass (join (after ρ a) (after ρ b)) rest

-- a while; a hold costs what a while does
unfoldable pub WhileTicks : Type 0
WhileTicks =
    (i e : ℕ) (test : Test) (body rest : Block) (ρ : Env) → NoTriangle test.tested body
    → let N : ℕ = turns while ρ test body in
    let B : ℕ = one_pass (inside while ρ test body) body in
    one_pass ρ (loop i e while test body rest) ≡ N * (B + 1) + 1 + one_pass (outside while ρ test body) rest

unfoldable pub HoldTicks : Type 0
HoldTicks =
    (i e : ℕ) (test : Test) (body rest : Block) (ρ : Env) → NoTriangle test.tested body
    → let N : ℕ = turns hold ρ test body in
    let B : ℕ = one_pass (inside hold ρ test body) body in
    one_pass ρ (loop i e hold test body rest) ≡ N * (B + 1) + 1 + one_pass (outside hold ρ test body) rest

-- a do
unfoldable pub DoTicks : Type 0
DoTicks =
    (i e : ℕ) (test : Test) (body rest : Block) (ρ : Env) → NoTriangle test.tested body
    → let N : ℕ = turns do_while ρ test body in
    let B : ℕ = one_pass (inside do_while ρ test body) body in
    one_pass ρ (loop i e do_while test body rest) ≡ N * (B + 1) + one_pass (outside do_while ρ test body) rest

-- a for: its step row p is the last row of its body, and B are the rows before it
unfoldable pub ForTicks : Type 0
ForTicks =
    (i e : ℕ) (x : Expr) (test : Test) (b : Block) (p : Plain) (rest : Block) (ρ : Env) → NoTriangle test.tested (snoc b i p)
    → let σ : Env = at_start (for x) test ρ in
    let N : ℕ = turns (for x) σ test (snoc b i p) in
    let B : ℕ = one_pass (inside (for x) σ test (snoc b i p)) b in
    one_pass ρ (loop i e (for x) test (snoc b i p) rest) ≡ N * (B + 2) + 2 + one_pass (outside (for x) σ test (snoc b i p)) rest

-- change 9: "The outer's tick figure adds its passes likewise, each with the inner's turns for that value": in pass j of a loop that sums, its variable holds start + j·a
unfoldable pub SummedTicks : Type 0
SummedTicks =
    (i e : ℕ) (form : Form) (test : Test) (body rest : Block) (ρ : Env)
    → let σ : Env = at_start form test ρ in
    let inPass : ℕ → ℕ = λ j. ticks ones (valued test.tested ((σ test.tested).lo +ℤ first_end (step test.tested body) *ℤ pos j)) (inside form σ test body) body in
    T (sums form σ test body)
    → one_pass ρ (loop i e form test body rest) ≡ loop_ticks ones form (sum (λ j. inPass j + 1) 0 (turns form σ test body)) + one_pass (outside form σ test body) rest

-- in a pass in which v holds y, an inner for that is a triangle over v has the turns M for the limit y: M(B + 2) + 2
unfoldable pub TriangleTicks : Type 0
TriangleTicks =
    (i e v : ℕ) (y : ℤ) (x : Expr) (test : Test) (b : Block) (p : Plain) (ρ : Env)
    → let body : Block = snoc b i p in
    let σ : Env = at_start (for x) test ρ in
    let M : ℕ = turns (for x) σ (with_limit y test) body in
    let B : ℕ = one_pass (inside (for x) σ test body) b in
    T (not (eqb v test.tested)) → T (triangle v (for x) test body) → T (not (sums (for x) σ test body))
    → ticks ones (valued v y) ρ (loop i e (for x) test body done) ≡ M * (B + 2) + 2

-- ---- totals: "A loop's total is its turns times those of all loops round it"
-- in pass k of the loop round it, the loop is a triangle that is summed (change 9)
abbrev pub is_summed : Pass → Form → Test → Block → Bool
is_summed any form test body = false
is_summed (valued v x) form test body = triangle v form test body

-- its turns with each value of the outer variable for its limit, added: x, x + a, .. in as many passes as the outer has turns
unfoldable pub sum_of_values : Round → Pass → Form → Env → Test → Block → ℕ
sum_of_values r any form ρ test body = 0
sum_of_values r (valued v x) form ρ test body = sum (λ i. turns form ρ (with_limit (x +ℤ r.by *ℤ pos i) test) body) 0 r.count

-- a line, and the totals of the loop next round its loop and of the loop next round that one: 1 if there is none
pub record Placed : Type 0 where
  pub over : ℕ
  pub beyond : ℕ
  pub summed : Bool
  pub values : ℕ
  pub line : Line

-- the lines of a block, each so placed; `over` the total of the loop next round the block, `beyond` that of the loop next round that loop
unfoldable pub placed : ℕ → ℕ → Round → Pass → Env → Block → List Placed
placed over beyond r k ρ done = []
placed over beyond r k ρ (plain i p rest) = placed over beyond r (later (λ w. sets w p) k) (after_row ρ p) rest
placed over beyond r k ρ (pick i e a b rest) =
    placed over beyond (alike (often r)) any ρ a
    ++ (placed over beyond (alike (often r)) any ρ b ++ placed over beyond r (later (λ w. assigns w a || assigns w b) k) (join (after ρ a) (after ρ b)) rest)
placed over beyond r k ρ (loop i e form test body rest) =
    record {
      over = over;
      beyond = beyond;
      summed = is_summed (start_pass form test k) form test body;
      values = sum_of_values r (start_pass form test k) form (at_start form test ρ) test body;
      line = line r (start_pass form test k) i form (at_start form test ρ) test body;
    }
    ∷ (placed (total_of r (start_pass form test k) form (at_start form test ρ) test body) over (in_body r (start_pass form test k) form (at_start form test ρ) test body)
    (first_pass form (at_start form test ρ) test body) (inside form (at_start form test ρ) test body) body
    ++ placed over beyond r (later (λ w. starts w form test || assigns w body) k) (outside form (at_start form test ρ) test body) rest)

-- the lines alone
unfoldable pub lines_in : List Placed → List Line
lines_in [] = []
lines_in (p ∷ ps) = p.line ∷ lines_in ps

-- the placed lines of a script
abbrev pub script_placed : Script → List Placed
script_placed script = placed 1 1 (alike 1) any (start_env script.ranges) (tree_of script.rows)

-- these are the report's lines
unfoldable pub LinesPlaced : Type 0
LinesPlaced = (script : Script) → lines_in (script_placed script) ≡ report_lines script

-- in every accepted file the total of each loop that is no summed triangle is its turns times the total of the loop next round it
unfoldable pub TotalsMultiply : Type 0
TotalsMultiply =
    (prices : List ℕ) (scratch : ℕ) (file : List ℕ) (script : Script) → judged prices scratch file ≡ accepted script
    → All (λ p. T (not p.summed) → p.line.total ≡ p.line.turns * p.over) (script_placed script)

-- change 9: "The inner total becomes the sum over the outer's values, times the total of the loop next round the outer, if any"
unfoldable pub TrianglesSum : Type 0
TrianglesSum =
    (prices : List ℕ) (scratch : ℕ) (file : List ℕ) (script : Script) → judged prices scratch file ≡ accepted script
    → All (λ p. T p.summed → p.line.total ≡ p.values * p.beyond) (script_placed script)

-- ---- how large they get
-- each turn takes a tick: no total is above the ticks of the file
unfoldable pub TotalsWithinTicks : Type 0
TotalsWithinTicks =
    (prices : List ℕ) (scratch : ℕ) (file : List ℕ) (script : Script) → judged prices scratch file ≡ accepted script
    → All (λ l. l.total ≤ report_ticks (prices_of prices) script) (report_lines script)

-- nor are the turns of one entry above 13's limit
unfoldable pub TurnsWithinLimit : Type 0
TurnsWithinLimit =
    (prices : List ℕ) (scratch : ℕ) (file : List ℕ) (script : Script) → judged prices scratch file ≡ accepted script
    → All (λ l. l.turns ≤ 1_000_000_000_000) (report_lines script)
