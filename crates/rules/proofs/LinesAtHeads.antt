-- The report's lines stand for the loops' head rows, in row order; and there are at most 16.
use mathlib.Core.Path.{◌≡◌, refl, sym, ◌∙◌, ap, subst}
use mathlib.Core.Bool.{Bool, true, false, cond, ◌&&◌, ◌||◌}
use mathlib.Core.List.{List, [], ◌∷◌, ◌++◌, append_assoc, append-nil}
use Prim.Native.Nat.{ℕ, suc, ◌+◌, ◌≤◌, ◌<◌}
use native.Mathlib.Omega.{arith}
use borrow.Author.Tests.{ltb-true}
use lib.Dec.{ltb}
use lib.ListN.{length}
use Rattle.rules.specs.Blocks.{Plain, Form, Test, Last, no_step, step_by, View, is_plain, is_pick, is_else, is_end, is_loop, view_of, Block, done, plain, pick, loop, Part, to_end, to_else, Built, parts, misfit, snoc, in_front, with_last, loop_head, pick_head, plain_row, closes, built_row, build, RowKind}
use Rattle.rules.specs.Nesting.{Open, in_loop, in_pick, in_else, Nest, Nested, nested, wrong, nest, opens, elses, ends, nest_row, and_rows, nest_rows}
use Rattle.rules.specs.Ranges.{Env, after_row, join, at_start}
use Rattle.rules.specs.Trips.{inside, outside, after}
use Rattle.rules.specs.Steps.{sets, starts, assigns}
use Rattle.rules.specs.Passes.{Pass, any, later, start_pass, first_pass}
use Rattle.rules.specs.Figures.{Line, Round, alike, often, in_body, lines}
use Rattle.rules.specs.Scripts.{Script, start_env, of_built, tree_of, report_lines, Legal}
use Rattle.rules.specs.Calls.{is_loop_row, loop_rows}
use Rattle.rules.specs.Claim.{line_rows}
use Rattle.rules.proofs.TreeOf.{tree_of_lem}

-- the head rows of a block's loops
pub heads : Block → List ℕ
heads done = []
heads (plain i p rest) = heads rest
heads (pick i e a b rest) = heads a ++ (heads b ++ heads rest)
heads (loop i e form test body rest) = i ∷ (heads body ++ heads rest)

-- ---- of the lines
rows_append : (x y : List Line) → line_rows (x ++ y) ≡ line_rows x ++ line_rows y
unfolding line_rows
rows_append [] y = refl
rows_append (l ∷ x) y = ap {B = List ℕ} (λ r. l.row ∷ r) (rows_append x y)

pub line_heads : (r : Round) (k : Pass) (b : Block) (ρ : Env) → line_rows (lines r k ρ b) ≡ heads b
unfolding lines heads line_rows
line_heads r k done ρ = refl
line_heads r k (plain i p rest) ρ = line_heads r (later (λ w. sets w p) k) rest (after_row ρ p)
line_heads r k (pick i e a b rest) ρ =
    let o : Round = alike (often r) in
    let l : Pass = later (λ w. assigns w a || assigns w b) k in
    let σ = join (after ρ a) (after ρ b) in
    rows_append (lines o any ρ a) (lines o any ρ b ++ lines r l σ rest)
    ∙ (λ j. line_heads o any a ρ j ++ (rows_append (lines o any ρ b) (lines r l σ rest) ∙ λ m. line_heads o any b ρ m ++ line_heads r l rest σ m) j)
line_heads r k (loop i e form test body rest) ρ =
    let σ = at_start form test ρ in
    let o : Round = in_body r (start_pass form test k) form σ test body in
    let f : Pass = first_pass form σ test body in
    let l : Pass = later (λ w. starts w form test || assigns w body) k in
    let β = inside form σ test body in
    let α = outside form σ test body in
    ap {B = List ℕ} (λ hs. i ∷ hs) (rows_append (lines o f β body) (lines r l α rest) ∙ λ j. line_heads o f body β j ++ line_heads r l rest α j)

-- ---- of the rows
part_heads : Part → List ℕ
part_heads (to_end e b) = heads b
part_heads (to_else e b) = heads b

parts_heads : List Part → List ℕ
unfolding part_heads
parts_heads [] = []
parts_heads (p ∷ ps) = part_heads p ++ parts_heads ps

-- the heads of what is built
Heads : List ℕ → Built → Type 0
Heads hs (parts p ps) = parts_heads (p ∷ ps) ≡ hs
Heads hs misfit = Unit {0}

snoc_heads : (b : Block) (i : ℕ) (p : Plain) → heads (snoc b i p) ≡ heads b
unfolding snoc heads
snoc_heads done i p = refl
snoc_heads (plain j q rest) i p = snoc_heads rest i p
snoc_heads (pick j e a b rest) i p = ap (λ r. heads a ++ (heads b ++ r)) (snoc_heads rest i p)
snoc_heads (loop j e form test body rest) i p = ap {B = List ℕ} (λ r. j ∷ (heads body ++ r)) (snoc_heads rest i p)

last_heads : (last : Last) (i : ℕ) (b : Block) → heads (with_last last i b) ≡ heads b
unfolding with_last
last_heads no_step i b = refl
last_heads (step_by p) i b = snoc_heads b i p

-- a row in front of a part, that adds hs
front : (f : Block → Block) (hs : List ℕ) → ((b : Block) → heads (f b) ≡ hs ++ heads b) → (p : Part) → part_heads (in_front f p) ≡ hs ++ part_heads p
unfolding in_front part_heads
front f hs h (to_end e b) = h b
front f hs h (to_else e b) = h b

plain_heads : (i : ℕ) (p : Plain) (b : Built) (hs : List ℕ) → Heads hs b → Heads hs (plain_row i p b)
unfolding plain_row Heads parts_heads heads
plain_heads i p (parts q qs) hs h = ap (λ r. r ++ parts_heads qs) (front (plain i p) [] (λ b. refl) q) ∙ h
plain_heads i p misfit hs h = tt

loop_heads : (i : ℕ) (form : Form) (test : Test) (last : Last) (b : Built) (hs : List ℕ) → Heads hs b → Heads (i ∷ hs) (loop_head i form test last b)
unfolding loop_head Heads parts_heads heads part_heads
loop_heads i form test last (parts (to_end e body) (rest ∷ more)) hs h =
    ap (λ r. r ++ parts_heads more) (front (loop i e form test (with_last last i body)) (i ∷ heads body) (λ b. ap {B = List ℕ} (λ r. i ∷ (r ++ heads b)) (last_heads last i body)) rest)
    ∙ ap {B = List ℕ} (λ r. i ∷ r) (append_assoc (heads body) (part_heads rest) (parts_heads more) ∙ h)
loop_heads i form test last (parts (to_end e body) []) hs h = tt
loop_heads i form test last (parts (to_else e body) more) hs h = tt
loop_heads i form test last misfit hs h = tt

pick_heads : (i : ℕ) (b : Built) (hs : List ℕ) → Heads hs b → Heads hs (pick_head i b)
unfolding pick_head Heads parts_heads heads part_heads
pick_heads i (parts (to_end e a) (rest ∷ more)) hs h =
    ap (λ r. r ++ parts_heads more) (front (pick i e a done) (heads a) (λ b. refl) rest) ∙ append_assoc (heads a) (part_heads rest) (parts_heads more) ∙ h
pick_heads i (parts (to_end e a) []) hs h = tt
pick_heads i (parts (to_else j a) (to_end e b ∷ (rest ∷ more))) hs h =
    ap (λ r. r ++ parts_heads more) (front (pick i e a b) (heads a ++ heads b) (λ c. sym (append_assoc (heads a) (heads b) (heads c))) rest)
    ∙ append_assoc (heads a ++ heads b) (part_heads rest) (parts_heads more) ∙ append_assoc (heads a) (heads b) (part_heads rest ++ parts_heads more) ∙ h
pick_heads i (parts (to_else j a) (to_end e b ∷ [])) hs h = tt
pick_heads i (parts (to_else j a) (to_else e b ∷ more)) hs h = tt
pick_heads i (parts (to_else j a) []) hs h = tt
pick_heads i misfit hs h = tt

close_heads : (new : Part) → part_heads new ≡ [] → (b : Built) (hs : List ℕ) → Heads hs b → Heads hs (closes new b)
unfolding closes Heads parts_heads
close_heads new e (parts p ps) hs h = ap (λ r. r ++ parts_heads (p ∷ ps)) e ∙ h
close_heads new e misfit hs h = tt

row_heads : (v : View) (i : ℕ) (b : Built) (hs : List ℕ) → Heads hs b → Heads (cond (is_loop_row v) (i ∷ hs) hs) (built_row v i b)
unfolding built_row is_loop_row part_heads heads
row_heads (is_plain p) i b hs h = plain_heads i p b hs h
row_heads is_pick i b hs h = pick_heads i b hs h
row_heads is_else i b hs h = close_heads (to_else i done) refl b hs h
row_heads is_end i b hs h = close_heads (to_end i done) refl b hs h
row_heads (is_loop form test last) i b hs h = loop_heads i form test last b hs h

build_heads : (rs : List RowKind) (i : ℕ) → Heads (loop_rows i rs) (build i rs)
unfolding build loop_rows Heads parts_heads part_heads heads
build_heads [] i = refl
build_heads (r ∷ rs) i = row_heads (view_of r) i (build (suc i) rs) (loop_rows (suc i) rs) (build_heads rs (suc i))

-- the loops of a tree are those of its rows
pub tree_heads : (rows : List RowKind) (n : ℕ) → nest_rows rows (record { open_blocks = []; loops = 0 }) ≡ nest [] n → heads (tree_of rows) ≡ loop_rows 0 rows
unfolding tree_of Heads parts_heads part_heads
tree_heads rows n e =
    let (tree, closed) = tree_of_lem rows n e in
    ap (λ b. heads (of_built b)) closed ∙ sym (append-nil (heads tree)) ∙ subst (Heads (loop_rows 0 rows)) closed (build_heads rows 0)

-- the rows of the report's lines are the head rows of the file's loops, in row order
pub lines_at_heads : (script : Script) → Legal script → line_rows (report_lines script) ≡ loop_rows 0 script.rows
lines_at_heads script legal =
    line_heads (alike 1) any (tree_of script.rows) (start_env script.ranges) ∙ tree_heads script.rows _ legal.closed.1

-- ---- at most 16 loops
module _ (last : Nest) where
  -- the loops so far and the rest
  abbrev Few : ℕ → ℕ → Type 0
  Few n more = (n + more ≡ last.loops) × (last.loops ≤ 16)

  -- a block opens by a test
  opened : (b : Bool) (t : Nest) (rest : Nest → Nested) → and_rows (cond b (nested t) (wrong 7)) rest ≡ nested last → (b ≡ true) × (rest t ≡ nested last)
  unfolding and_rows
  opened true t rest e = (refl, e)
  opened false t rest e = absurd (let z : ◌≡◌ {A = ℕ} 0 1 = cc in omega arith)

  both : (a b : Bool) → (a && b) ≡ true → b ≡ true
  both true b e = e
  both false b e = absurd (let z : ◌≡◌ {A = ℕ} 0 1 = cc in omega arith)

  few_else : (st : List Open) (n : ℕ) (rest : Nest → Nested) (more : ℕ) → and_rows (elses st n) rest ≡ nested last
      → ((t : Nest) → t.loops ≤ 16 → rest t ≡ nested last → Few t.loops more) → n ≤ 16 → Few n more
  unfolding and_rows elses
  few_else [] n rest more e ih l = absurd (let z : ◌≡◌ {A = ℕ} 0 1 = cc in omega arith)
  few_else (in_loop ∷ st) n rest more e ih l = absurd (let z : ◌≡◌ {A = ℕ} 0 1 = cc in omega arith)
  few_else (in_pick ∷ st) n rest more e ih l = ih _ l e
  few_else (in_else ∷ st) n rest more e ih l = absurd (let z : ◌≡◌ {A = ℕ} 0 1 = cc in omega arith)

  few_end : (st : List Open) (n : ℕ) (rest : Nest → Nested) (more : ℕ) → and_rows (ends st n) rest ≡ nested last
      → ((t : Nest) → t.loops ≤ 16 → rest t ≡ nested last → Few t.loops more) → n ≤ 16 → Few n more
  unfolding and_rows ends
  few_end [] n rest more e ih l = absurd (let z : ◌≡◌ {A = ℕ} 0 1 = cc in omega arith)
  few_end (o ∷ st) n rest more e ih l = ih _ l e

  few_loop : (st : List Open) (n : ℕ) (rest : Nest → Nested) (more : ℕ) → and_rows (opens in_loop st n) rest ≡ nested last
      → ((t : Nest) → t.loops ≤ 16 → rest t ≡ nested last → Few t.loops more) → Few n (suc more)
  unfolding opens
  few_loop st n rest more e ih =
      let (b, f) = opened (ltb (length st) 8 && ltb n 16) _ rest e in
      let l : n < 16 = ltb-true n 16 (both (ltb (length st) 8) (ltb n 16) b) in
      let (x, y) = ih _ (omega arith) f in
      (omega arith, y)

  few_row : (v : View) (s : Nest) (rest : Nest → Nested) (i : ℕ) (more : List ℕ) → and_rows (nest_row v s) rest ≡ nested last
      → ((t : Nest) → t.loops ≤ 16 → rest t ≡ nested last → Few t.loops (length more)) → s.loops ≤ 16 → Few s.loops (length (cond (is_loop_row v) (i ∷ more) more))
  unfolding nest_row and_rows opens is_loop_row
  few_row (is_plain p) s rest i more e ih l = ih s l e
  few_row is_pick s rest i more e ih l = let (b, f) = opened (ltb (length s.open_blocks) 8) _ rest e in ih _ l f
  few_row is_else s rest i more e ih l = few_else s.open_blocks s.loops rest (length more) e ih l
  few_row is_end s rest i more e ih l = few_end s.open_blocks s.loops rest (length more) e ih l
  few_row (is_loop form test k) s rest i more e ih l = few_loop s.open_blocks s.loops rest (length more) e ih

  few_rows : (ks : List RowKind) (i : ℕ) (s : Nest) → s.loops ≤ 16 → nest_rows ks s ≡ nested last → Few s.loops (length (loop_rows i ks))
  unfolding nest_rows loop_rows
  few_rows [] i s l e = let q : s ≡ last = cc in let n : s.loops ≡ last.loops = ap (λ (t : Nest). t.loops) q in (omega arith, omega arith)
  few_rows (k ∷ ks) i s l e = few_row (view_of k) s (λ t. nest_rows ks t) i (loop_rows (suc i) ks) e (λ t m f. few_rows ks (suc i) t m f) l

pub heads_few : (ks : List RowKind) (n : ℕ) → nest_rows ks (record { open_blocks = []; loops = 0 }) ≡ nest [] n → length (loop_rows 0 ks) ≤ 16
heads_few ks n e = let (a, b) = few_rows _ ks 0 _ (omega arith) e in omega arith

rows_length : (ls : List Line) → length (line_rows ls) ≡ length ls
unfolding line_rows
rows_length [] = refl
rows_length (l ∷ ls) = ap suc (rows_length ls)

-- a report has at most 16 lines of loops
pub lines_few : (script : Script) → Legal script → length (report_lines script) ≤ 16
lines_few script legal =
    omega (arith, rows_length (report_lines script), ap length (lines_at_heads script legal), heads_few script.rows _ legal.closed.1)
