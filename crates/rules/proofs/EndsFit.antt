-- How large the ends of a line's step get: each row of a legal script adds at most L.
use mathlib.Core.Path.{◌≡◌, refl}
use mathlib.Core.Bool.{cond, ◌||◌}
use mathlib.Core.List.{List, [], ◌∷◌}
use Prim.Native.Nat.{ℕ, suc, ◌+◌, ◌*◌, ◌≤◌, min, max}
use native.Mathlib.Omega.{arith}
use lib.Dec.{eqb}
use lib.ListN.{length}
use lib.IntN.{ℤ, pos, neg_ℤ, ◌+ℤ◌, ◌-ℤ◌}
use Rattle.ints.specs.Ints.{min_z, max_z}
use Rattle.ints.proofs.Parts.{ints, add_parts, minus_parts, neg_parts, min_parts, max_parts}
use Rattle.ints.proofs.Diffs.{cond_elim}
use Rattle.rules.specs.declared.Change.{Change}
use Rattle.rules_steps.specs.declared.Step.{Step}
use Rattle.rules_steps.specs.declared.Step.TheVariants.{Add, Grow, Shrink, Unknown}
use Rattle.rules_steps.specs.Joins.{still, stands, factor_limit, product, then, either}
use Rattle.rules_steps.specs.Ends.{Near, Factors, EndsWithin}
use Rattle.rules.specs.Values.{highest}
use Rattle.rules.specs.Blocks.{from, changed, off, Plain, assign, cue, Test, Form, Last, no_step, step_by, view_of, Block, done, plain, pick, loop, snoc, Part, to_end, to_else, Built, parts, misfit, in_front, with_last, loop_head, pick_head, plain_row, closes, built_row, build, RowKind, Set, Move, Cue, Pick, Else, End, While, Do, For, Off, Hold}
use Rattle.rules.specs.Steps.{starts, assigns, change_step, source_step, row_step, step_from, step, difference}
use Rattle.rules.specs.Ranges.{Env, after_row, join, at_start}
use Rattle.rules.specs.Trips.{Way, own, broken, copied, chase, watched, way_of, trip_by, inside, outside, after}
use Rattle.rules.specs.Passes.{Pass, any}
use Rattle.rules.specs.Figures.{Round, lines}
use Rattle.rules.specs.Scripts.{All, none, some, ChangeLimits, RowLimits, Script, of_built, tree_of, report_lines, Legal}
use Rattle.rules.proofs.Totals.{all_append}

-- ---- the ends of joined steps
near_more : {m n : ℕ} {z : ℤ} → m ≤ n → Near m z → Near n z
near_more {m} {n} {z} h k = record {
  low = omega (ints, neg_parts (pos (n * 1_000_000_000)), neg_parts (pos (m * 1_000_000_000)), k.low);
  high = omega (ints, k.high);
}

near_sum : {m n : ℕ} {y z : ℤ} → Near m y → Near n z → Near (m + n) (y +ℤ z)
near_sum {m} {n} {y} {z} h k = record {
  low = omega (ints, neg_parts (pos ((m + n) * 1_000_000_000)), neg_parts (pos (m * 1_000_000_000)), neg_parts (pos (n * 1_000_000_000)), h.low, k.low, add_parts y z);
  high = omega (ints, h.high, k.high, add_parts y z);
}

near_minus : {m n : ℕ} {y z : ℤ} → Near m y → Near n z → Near (m + n) (y -ℤ z)
near_minus {m} {n} {y} {z} h k = record {
  low = omega (ints, neg_parts (pos ((m + n) * 1_000_000_000)), neg_parts (pos (m * 1_000_000_000)), neg_parts (pos (n * 1_000_000_000)), h.low, k.high, minus_parts y z);
  high = omega (ints, neg_parts (pos (n * 1_000_000_000)), h.high, k.low, minus_parts y z);
}

factors : {f g : ℕ} → f ≤ factor_limit → g ≤ factor_limit → Factors f g
factors h k = record { first = h; second = k }

then_ends : (m n : ℕ) (s t : Step) → EndsWithin m s → EndsWithin n t → EndsWithin (m + n) (then s t)
unfolding then product factor_limit
then_ends m n (Add a b) (Add c d) (h, k) (u, v) = (near_sum h u, near_sum k v)
then_ends m n (Add a b) (Grow f g) h k = cond_elim (EndsWithin (m + n)) (stands a b) (Grow f g) Unknown (λ _. k) (λ _. tt)
then_ends m n (Add a b) (Shrink f g) h k = cond_elim (EndsWithin (m + n)) (stands a b) (Shrink f g) Unknown (λ _. k) (λ _. tt)
then_ends m n (Add a b) Unknown h k = tt
then_ends m n (Grow f g) (Add a b) h k = cond_elim (EndsWithin (m + n)) (stands a b) (Grow f g) Unknown (λ _. h) (λ _. tt)
then_ends m n (Grow f g) (Grow p q) h k = factors (omega arith) (omega arith)
then_ends m n (Grow f g) (Shrink p q) h k = tt
then_ends m n (Grow f g) Unknown h k = tt
then_ends m n (Shrink f g) (Add a b) h k = cond_elim (EndsWithin (m + n)) (stands a b) (Shrink f g) Unknown (λ _. h) (λ _. tt)
then_ends m n (Shrink f g) (Grow p q) h k = tt
then_ends m n (Shrink f g) (Shrink p q) h k = factors (omega arith) (omega arith)
then_ends m n (Shrink f g) Unknown h k = tt
then_ends m n Unknown t h k = tt

near_min : {m n : ℕ} {y z : ℤ} → Near m y → Near n z → Near (m + n) (min_z y z)
near_min {m} {n} {y} {z} h k =
    let a = near_more {n = m + n} (omega arith) h in
    let b = near_more {n = m + n} (omega arith) k in
    record { low = omega (ints, a.low, b.low, min_parts y z); high = omega (ints, a.high, b.high, min_parts y z) }

near_max : {m n : ℕ} {y z : ℤ} → Near m y → Near n z → Near (m + n) (max_z y z)
near_max {m} {n} {y} {z} h k =
    let a = near_more {n = m + n} (omega arith) h in
    let b = near_more {n = m + n} (omega arith) k in
    record { low = omega (ints, a.low, b.low, max_parts y z); high = omega (ints, a.high, b.high, max_parts y z) }

either_ends : (m n : ℕ) (s t : Step) → EndsWithin m s → EndsWithin n t → EndsWithin (m + n) (either s t)
unfolding either factor_limit
either_ends m n (Add a b) (Add c d) (h, k) (u, v) = (near_min h u, near_max k v)
either_ends m n (Add a b) (Grow f g) h k = cond_elim (EndsWithin (m + n)) (stands a b) (Grow (min 1 f) (max 1 g)) Unknown (λ _. factors (omega (arith, k.first)) (omega (arith, k.second))) (λ _. tt)
either_ends m n (Add a b) (Shrink f g) h k = cond_elim (EndsWithin (m + n)) (stands a b) (Shrink (min 1 f) (max 1 g)) Unknown (λ _. factors (omega (arith, k.first)) (omega (arith, k.second))) (λ _. tt)
either_ends m n (Add a b) Unknown h k = tt
either_ends m n (Grow f g) (Add a b) h k = cond_elim (EndsWithin (m + n)) (stands a b) (Grow (min f 1) (max g 1)) Unknown (λ _. factors (omega (arith, h.first)) (omega (arith, h.second))) (λ _. tt)
either_ends m n (Grow f g) (Grow p q) h k = factors (omega (arith, h.first)) (omega (arith, h.second, k.second))
either_ends m n (Grow f g) (Shrink p q) h k = tt
either_ends m n (Grow f g) Unknown h k = tt
either_ends m n (Shrink f g) (Add a b) h k = cond_elim (EndsWithin (m + n)) (stands a b) (Shrink (min f 1) (max g 1)) Unknown (λ _. factors (omega (arith, h.first)) (omega (arith, h.second))) (λ _. tt)
either_ends m n (Shrink f g) (Grow p q) h k = tt
either_ends m n (Shrink f g) (Shrink p q) h k = factors (omega (arith, h.first)) (omega (arith, h.second, k.second))
either_ends m n (Shrink f g) Unknown h k = tt
either_ends m n Unknown t h k = tt

difference_ends : (m n : ℕ) (s t : Step) → EndsWithin m s → EndsWithin n t → EndsWithin (m + n) (difference s t)
unfolding difference
difference_ends m n (Add a b) (Add c d) (h, k) (u, v) = (near_minus h v, near_minus k u)
difference_ends m n (Add a b) (Grow f g) h k = tt
difference_ends m n (Add a b) (Shrink f g) h k = tt
difference_ends m n (Add a b) Unknown h k = tt
difference_ends m n (Grow f g) t h k = tt
difference_ends m n (Shrink f g) t h k = tt
difference_ends m n Unknown t h k = tt

ends_more : (m n : ℕ) (st : Step) → m ≤ n → EndsWithin m st → EndsWithin n st
ends_more m n (Add a b) h (x, y) = (near_more h x, near_more h y)
ends_more m n (Grow f g) h k = k
ends_more m n (Shrink f g) h k = k
ends_more m n Unknown h k = tt

still_ends : (n : ℕ) → EndsWithin n still
still_ends n = (near, near)
  where
    near : Near n (pos 0)
    near = record { low = omega (ints, neg_parts (pos (n * 1_000_000_000))); high = omega ints }

-- ---- the rows of a tree: their constants, and how many there are
abbrev SmallRow : Plain → Type 0
SmallRow (assign v (from x)) = Unit {0}
SmallRow (assign v (changed c)) = ChangeLimits c
SmallRow (assign v (off w c k)) = Unit {0}
SmallRow (cue n) = Unit {0}

unfoldable Small : Block → Type 0
Small done = Unit {0}
Small (plain i p rest) = SmallRow p × Small rest
Small (pick i e a b rest) = Small a × Small b × Small rest
Small (loop i e form test body rest) = Small body × Small rest

unfoldable weight : Block → ℕ
weight done = 0
weight (plain i p rest) = 1 + weight rest
weight (pick i e a b rest) = weight a + weight b + weight rest
weight (loop i e form test body rest) = weight body + weight rest

change_ends : (c : Change) → ChangeLimits c → EndsWithin 1 (change_step c)
unfolding change_step highest factor_limit
change_ends (Change.Add c) h = let n : Near 1 (pos c) = record { low = omega (ints, neg_parts (pos (1 * 1_000_000_000))); high = omega ints } in (n, n)
change_ends (Change.Sub c) h = let n : Near 1 (neg_ℤ (pos c)) = record { low = omega (ints, neg_parts (pos (1 * 1_000_000_000)), neg_parts (pos c)); high = omega (ints, neg_parts (pos c)) } in (n, n)
change_ends (Change.Mul c) h = cond_elim (EndsWithin 1) (eqb c 1) still (Grow c c) (λ _. still_ends 1) (λ _. factors (omega (ints, h.1)) (omega (ints, h.1)))
change_ends (Change.Div c) h = cond_elim (EndsWithin 1) (eqb c 1) still (Shrink c c) (λ _. still_ends 1) (λ _. factors (omega (ints, h.1)) (omega (ints, h.1)))

row_ends : (w : ℕ) (p : Plain) → SmallRow p → EndsWithin 1 (row_step w p)
unfolding row_step source_step
row_ends w (cue n) h = still_ends 1
row_ends w (assign v (from x)) h = cond_elim (EndsWithin 1) (eqb w v) Unknown still (λ _. tt) (λ _. still_ends 1)
row_ends w (assign v (changed c)) h = cond_elim (EndsWithin 1) (eqb w v) (change_step c) still (λ _. change_ends c h) (λ _. still_ends 1)
row_ends w (assign v (off u c k)) h = cond_elim (EndsWithin 1) (eqb w v) Unknown still (λ _. tt) (λ _. still_ends 1)

steps_end : (b : Block) (w m : ℕ) (acc : Step) → Small b → EndsWithin m acc → EndsWithin (m + weight b) (step_from acc w b)
unfolding step_from Small weight
steps_end done w m acc s h = ends_more m (m + 0) acc (omega arith) h
steps_end (plain i p rest) w m acc (a, s) h =
    ends_more (m + 1 + weight rest) (m + (1 + weight rest)) (step_from (then acc (row_step w p)) w rest) (omega arith) (steps_end rest w (m + 1) _ s (then_ends m 1 acc (row_step w p) h (row_ends w p a)))
steps_end (pick i e a b rest) w m acc (sa, sb, s) h =
    ends_more (m + ((0 + weight a) + (0 + weight b)) + weight rest) (m + (weight a + weight b + weight rest)) (step_from (then acc (either (step_from still w a) (step_from still w b))) w rest) (omega arith)
    (steps_end rest w (m + ((0 + weight a) + (0 + weight b))) _ s (then_ends m ((0 + weight a) + (0 + weight b)) acc _ h
    (either_ends (0 + weight a) (0 + weight b) (step_from still w a) (step_from still w b) (steps_end a w 0 still sa (still_ends 0)) (steps_end b w 0 still sb (still_ends 0)))))
steps_end (loop i e form test body rest) w m acc (sb, s) h =
    ends_more (m + 0 + weight rest) (m + (weight body + weight rest)) (step_from (then acc (cond (starts w form test || assigns w body) Unknown still)) w rest) (omega arith)
    (steps_end rest w (m + 0) _ s (then_ends m 0 acc _ h (cond_elim (EndsWithin 0) (starts w form test || assigns w body) Unknown still (λ _. tt) (λ _. still_ends 0))))

step_ends : (b : Block) (w n : ℕ) → Small b → weight b ≤ n → EndsWithin n (step w b)
step_ends b w n s h = ends_more (0 + weight b) n (step w b) (omega arith) (steps_end b w 0 still s (still_ends 0))

-- ---- what `build` gives: no more rows than the file has
abbrev block_in : Part → Block
block_in (to_end e b) = b
block_in (to_else e b) = b

abbrev SmallParts : List Part → Type 0
SmallParts [] = Unit {0}
SmallParts (p ∷ ps) = Small (block_in p) × SmallParts ps

abbrev load : List Part → ℕ
load [] = 0
load (p ∷ ps) = weight (block_in p) + load ps

abbrev Light : ℕ → Built → Type 0
Light n (parts p ps) = SmallParts (p ∷ ps) × (load (p ∷ ps) ≤ n)
Light n misfit = Unit {0}

front_light : (f : Block → Block) (d n : ℕ) (p : Part) (ps : List Part) → ((b : Block) → Small b → Small (f b)) → ((b : Block) → weight (f b) ≤ d + weight b)
    → SmallParts (p ∷ ps) → d + load (p ∷ ps) ≤ n → Light n (parts (in_front f p) ps)
unfolding in_front
front_light f d n (to_end e b) ps g k (s, t) h = ((g b s, t), omega (arith, k b))
front_light f d n (to_else e b) ps g k (s, t) h = ((g b s, t), omega (arith, k b))

plain_light : (i n : ℕ) (p : Plain) (b : Built) → SmallRow p → Light n b → Light (suc n) (plain_row i p b)
unfolding plain_row Small weight
plain_light i n p (parts q ps) r (s, h) = front_light (plain i p) 1 (suc n) q ps (λ b k. (r, k)) (λ b. omega arith) s (omega arith)
plain_light i n p misfit r h = tt

snoc_small : (b : Block) (i : ℕ) (p : Plain) → SmallRow p → Small b → Small (snoc b i p)
unfolding snoc Small
snoc_small done i p r s = (r, tt)
snoc_small (plain j q rest) i p r (a, s) = (a, snoc_small rest i p r s)
snoc_small (pick j e a b rest) i p r (x, y, s) = (x, y, snoc_small rest i p r s)
snoc_small (loop j e form test body rest) i p r (x, s) = (x, snoc_small rest i p r s)

snoc_weight : (b : Block) (i : ℕ) (p : Plain) → weight (snoc b i p) ≤ 1 + weight b
unfolding snoc weight
snoc_weight done i p = omega arith
snoc_weight (plain j q rest) i p = omega (arith, snoc_weight rest i p)
snoc_weight (pick j e a b rest) i p = omega (arith, snoc_weight rest i p)
snoc_weight (loop j e form test body rest) i p = omega (arith, snoc_weight rest i p)

abbrev SmallLast : Last → Type 0
SmallLast no_step = Unit {0}
SmallLast (step_by p) = SmallRow p

last_light : (last : Last) (i : ℕ) (b : Block) → SmallLast last → Small b → Small (with_last last i b) × (weight (with_last last i b) ≤ 1 + weight b)
unfolding with_last
last_light no_step i b r s = (s, omega arith)
last_light (step_by p) i b r s = (snoc_small b i p r s, snoc_weight b i p)

loop_light : (i n : ℕ) (form : Form) (test : Test) (last : Last) (b : Built) → SmallLast last → Light n b → Light (suc n) (loop_head i form test last b)
unfolding loop_head Small weight
loop_light i n form test last (parts (to_end e body) (rest ∷ more)) r ((sb, t), h) =
    let (s, le) = last_light last i body r sb in
    front_light (loop i e form test (with_last last i body)) (1 + weight body) (suc n) rest more (λ b k. (s, k)) (λ b. omega arith) t (omega arith)
loop_light i n form test last (parts (to_end e body) []) r h = tt
loop_light i n form test last (parts (to_else e body) more) r h = tt
loop_light i n form test last misfit r h = tt

pick_light : (i n : ℕ) (b : Built) → Light n b → Light (suc n) (pick_head i b)
unfolding pick_head Small weight
pick_light i n (parts (to_end e a) (rest ∷ more)) ((sa, t), h) = front_light (pick i e a done) (weight a) (suc n) rest more (λ b k. (sa, tt, k)) (λ b. omega arith) t (omega arith)
pick_light i n (parts (to_end e a) []) h = tt
pick_light i n (parts (to_else j a) (to_end e b ∷ (rest ∷ more))) ((sa, (sb, t)), h) =
    front_light (pick i e a b) (weight a + weight b) (suc n) rest more (λ c k. (sa, sb, k)) (λ c. omega arith) t (omega arith)
pick_light i n (parts (to_else j a) (to_end e b ∷ [])) h = tt
pick_light i n (parts (to_else j a) (to_else e b ∷ more)) h = tt
pick_light i n (parts (to_else j a) []) h = tt
pick_light i n misfit h = tt

close_light : (n : ℕ) (p : Part) (b : Built) → Small (block_in p) → weight (block_in p) ≡ 0 → Light n b → Light (suc n) (closes p b)
unfolding closes
close_light n p (parts q ps) s w (t, h) = ((s, t), omega arith)
close_light n p misfit s w h = tt

row_light : (r : RowKind) → RowLimits r → (i n : ℕ) (b : Built) → Light n b → Light (suc n) (built_row (view_of r) i b)
unfolding built_row view_of Small weight
row_light (Set v x) l i n b h = plain_light i n _ b tt h
row_light (Move v c) l i n b h = plain_light i n _ b l h
row_light (Off v w c k) l i n b h = plain_light i n _ b tt h
row_light (Cue m) l i n b h = plain_light i n _ b tt h
row_light Pick l i n b h = pick_light i n b h
row_light Else l i n b h = close_light n (to_else i done) b tt refl h
row_light End l i n b h = close_light n (to_end i done) b tt refl h
row_light (While v c x) l i n b h = loop_light i n _ _ no_step b tt h
row_light (Do v c x) l i n b h = loop_light i n _ _ no_step b tt h
row_light (Hold v) l i n b h = loop_light i n _ _ no_step b tt h
row_light (For v s c x d) l i n b h = loop_light i n _ _ (step_by (assign v (changed d))) b l.2 h

build_light : (rs : List RowKind) → All RowLimits rs → (i : ℕ) → Light (length rs) (build i rs)
unfolding build Small weight
build_light [] l i = ((tt, tt), omega arith)
build_light (r ∷ rs) (some l ls) i = row_light r l i (length rs) (build (suc i) rs) (build_light rs ls (suc i))

tree_light : (rs : List RowKind) → All RowLimits rs → Small (tree_of rs) × (weight (tree_of rs) ≤ length rs)
unfolding tree_of Small weight
tree_light rs l = by (build 0 rs) (build_light rs l 0)
  where
    by : (b : Built) → Light (length rs) b → Small (of_built b) × (weight (of_built b) ≤ length rs)
    by (parts (to_end e b) []) ((s, t), h) = (s, omega arith)
    by (parts (to_end e b) (p ∷ ps)) h = (tt, omega arith)
    by (parts (to_else e b) ps) h = (tt, omega arith)
    by misfit h = (tt, omega arith)

-- ---- the lines of a tree
way_ends : (way : Way) (form : Form) (ρ : Env) (test : Test) (body : Block) → Small body → weight body ≤ 256 → EndsWithin 512 (trip_by way form ρ test body).step
unfolding trip_by
way_ends own form ρ test body s h = step_ends body test.tested 512 s (omega arith)
way_ends broken form ρ test body s h = step_ends body test.tested 512 s (omega arith)
way_ends (copied w ahead) form ρ test body s h = step_ends body w 512 s (omega arith)
way_ends (chase w) form ρ test body s h = difference_ends 256 256 (step test.tested body) (step w body) (step_ends body test.tested 256 s h) (step_ends body w 256 s h)
way_ends (watched w c k ahead) form ρ test body s h = step_ends body w 512 s (omega arith)

lines_end : (b : Block) (r : Round) (k : Pass) (ρ : Env) → Small b → weight b ≤ 256 → All (λ l. EndsWithin 512 l.step) (lines r k ρ b)
unfolding lines Small weight
lines_end done r k ρ s h = none
lines_end (plain i p rest) r k ρ (a, s) h = lines_end rest r _ (after_row ρ p) s (omega arith)
lines_end (pick i e a b rest) r k ρ (sa, sb, s) h =
    all_append (lines_end a _ any ρ sa (omega arith)) (all_append (lines_end b _ any ρ sb (omega arith)) (lines_end rest r _ (join (after ρ a) (after ρ b)) s (omega arith)))
lines_end (loop i e form test body rest) r k ρ (sb, s) h =
    let σ = at_start form test ρ in
    some (way_ends (way_of form test body) form σ test body sb (omega arith))
    (all_append (lines_end body _ _ (inside form σ test body) sb (omega arith)) (lines_end rest r _ (outside form σ test body) s (omega arith)))

-- of a legal script
pub script_ends : (script : Script) → Legal script → All (λ l. EndsWithin 512 l.step) (report_lines script)
script_ends script legal =
    let (s, h) = tree_light script.rows legal.numbers.1 in
    lines_end (tree_of script.rows) _ _ _ s (omega (arith, legal.sizes.1))
