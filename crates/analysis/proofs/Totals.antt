-- A line's total is at most the file's ticks: so the totals of an accepted file are the true ones.
use mathlib.Core.Path.{◌≡◌, refl, sym, ap, ap₂}
use mathlib.Core.Bool.{Bool, true, false, cond, ◌||◌}
use mathlib.Core.List.{List, [], ◌∷◌}
use Prim.Native.Nat.{ℕ, zero, suc, ◌+◌, ◌*◌, ◌≤◌, ◌<◌, max}
use native.Mathlib.Nat.{le_trans, le_of_eq, mul-le-mul, mul-le-mul_left}
use native.Mathlib.Omega.{arith}
use lib.Dec.{T}
use lib.IntN.{ℤ, pos}
use Rattle.ints.proofs.Diffs.{nor}
use Rattle.rules.specs.Blocks.{Test, Form, Block, done, plain, pick, loop}
use Rattle.rules.specs.Steps.{sets, starts, assigns, step, first_end}
use Rattle.rules.specs.Ranges.{Env, after_row, join, at_start}
use Rattle.rules.specs.Trips.{trip, turns, inside, outside, after}
use Rattle.rules.specs.declared.Prices.{Prices}
use Rattle.rules.specs.Verdicts.{passed}
use Rattle.rules.specs.Questions.{of_trip, loops_verdict}
use Rattle.rules.specs.Passes.{Pass, any, later, start_pass, pass_at, sum, sum_over, sums, first_pass, turns_in, over_passes}
use Rattle.rules.specs.Figures as figures
use Rattle.rules.specs.Figures.{price, loop_ticks, ticks, Line, alike, often, in_all_of, total_of, in_body, line, lines}
use Rattle.rules.specs.Scripts.{All, none, some}
use Rattle.rules.proofs.Good.{all_append, all_map}
use Rattle.rules.proofs.Triangles.{over_sum, over_same, all_past, all_any, all_body}
use Rattle.rules.proofs.Walk.{over_once}
use Rattle.analysis_ticks.specs.Capped.{capped}
use Rattle.analysis_ticks.proofs.Caps.{loop_ticks_is}
use Rattle.analysis.specs.Fold.{capped_lines}
use Rattle.analysis.proofs.Lone.{then_first, then_second, row_kept, start_kept, loop_kept, after_kept, join_kept, Lone, lone_later, first_lone, turns_lone}

Within : ℕ → Line → Type 0
Within m l = l.total ≤ m

-- ---- a figure in all passes is at most another, pass by pass
sum_le : (f g : ℕ → ℕ) (i n : ℕ) → ((j : ℕ) → j < i + n → f j ≤ g j) → sum f i n ≤ sum g i n
unfolding sum
sum_le f g i zero h = omega arith
sum_le f g i (suc n) h = omega (arith, h i (omega arith), sum_le f g (suc i) n (λ j l. h j (omega arith)))

over_le : (k : Pass) (a : ℤ) (n : ℕ) (f g : Pass → ℕ) → ((i : ℕ) → i < n → f (pass_at k a i) ≤ g (pass_at k a i)) → sum_over k a n f ≤ sum_over k a n g
over_le k a n f g h = omega (arith, over_sum k a n f, over_sum k a n g, sum_le (λ i. f (pass_at k a i)) (λ i. g (pass_at k a i)) 0 n (λ i l. h i (omega arith)))

all_le : (r : figures.Round) (k : Pass) (f g : Pass → ℕ) → ((i : ℕ) → i < r.count → f (pass_at k r.by i) ≤ g (pass_at k r.by i)) → in_all_of r k f ≤ in_all_of r k g
all_le r k f g h = mul-le-mul (over_le k r.by r.count f g h) (let z : r.times ≤ r.times = omega arith in z)

wider : {m n : ℕ} {ls : List Line} → m ≤ n → All (Within m) ls → All (Within n) ls
unfolding Within
wider h a = all_map (λ l k. le_trans k h) a

-- a pass takes at least a tick for each turn
turns_within : (k : Pass) (a : ℤ) (n : ℕ) (form : Form) (ρ : Env) (test : Test) (body : Block) → Lone k a n ρ → (f : Pass → ℕ) → ((j : Pass) → 1 ≤ f j)
    → (i : ℕ) → i < n → turns_in (pass_at k a i) form ρ test body ≤ over_passes (pass_at k a i) form ρ test body f
unfolding over_passes
turns_within k a n form ρ test body lone f more i l = by (sums form ρ test body) (λ t. turns_lone k a n form ρ test body lone t i l)
  where
    m : ℕ
    m = turns_in (pass_at k a i) form ρ test body

    by : (b : Bool) → (T b → m ≤ turns form ρ test body) → m ≤ cond b (sum_over (first_pass form ρ test body) (first_end (step test.tested body)) (turns form ρ test body) f) (m * f any)
    by true h =
        let e = first_end (step test.tested body) in
        let t = turns form ρ test body in
        omega (arith, h tt, over_same (first_pass form ρ test body) e t 1, over_le (first_pass form ρ test body) e t (λ _. 1) f (λ j _. more (pass_at (first_pass form ρ test body) e j)))
    by false h = omega (arith, mul-le-mul_left m (more any))

totals : (π : Prices) → 1 ≤ π.test → (b : Block) (ρ : Env) → loops_verdict ρ b ≡ passed → (r : figures.Round) (k : Pass) → Lone k r.by r.count ρ
    → All (Within (in_all_of r k (λ j. ticks π j ρ b))) (lines r k ρ b)
unfolding lines ticks Within loops_verdict total_of
totals π one done ρ g r k lone = none
totals π one (plain i p rest) ρ g r k lone =
    let s : ℕ → Bool = λ w. sets w p in
    let σ = after_row ρ p in
    let f : Pass → ℕ = λ j. ticks π j σ rest in
    wider (le_trans (le_of_eq (sym (all_past s r k f))) (all_le r k (λ j. f (later s j)) (λ j. price π p + f (later s j)) (λ i _. omega arith)))
    (totals π one rest σ g r (later s k) (lone_later s k r.by r.count ρ σ (λ v h. row_kept ρ p v h) lone))
totals π one (pick i e a b rest) ρ g r k lone =
    let s : ℕ → Bool = λ w. assigns w a || assigns w b in
    let σ = join (after ρ a) (after ρ b) in
    let f : Pass → ℕ = λ j. ticks π j σ rest in
    let A : Pass → ℕ = λ j. ticks π j ρ a in
    let B : Pass → ℕ = λ j. ticks π j ρ b in
    let all : Pass → ℕ = λ j. π.pick + max (A any) (B any) + f (later s j) in
    let ga = then_first (loops_verdict ρ a) _ g in
    let g₁ = then_second (loops_verdict ρ a) _ g in
    let gb = then_first (loops_verdict ρ b) _ g₁ in
    let g₂ = then_second (loops_verdict ρ b) _ g₁ in
    all_append (wider (le_trans (le_of_eq (sym (all_any r k A))) (all_le r k (λ _. A any) all (λ i _. omega arith))) (totals π one a ρ ga (alike (often r)) any tt))
    (all_append (wider (le_trans (le_of_eq (sym (all_any r k B))) (all_le r k (λ _. B any) all (λ i _. omega arith))) (totals π one b ρ gb (alike (often r)) any tt))
    (wider (le_trans (le_of_eq (sym (all_past s r k f))) (all_le r k (λ j. f (later s j)) all (λ i _. omega arith)))
    (totals π one rest σ g₂ r (later s k) (lone_later s k r.by r.count ρ σ
    (λ v h. let (x, y) = nor (assigns v a) (assigns v b) h in join_kept ρ (after ρ a) (after ρ b) v (after_kept a ρ v x ga) (after_kept b ρ v y gb)) lone))))
totals π one (loop i e form test body rest) ρ g r k lone =
    let σ = at_start form test ρ in
    let κ = start_pass form test k in
    let β = inside form σ test body in
    let α = outside form σ test body in
    let first = first_pass form σ test body in
    let q = in_body r κ form σ test body in
    let st : ℕ → Bool = λ w. starts w form test in
    let s : ℕ → Bool = λ w. starts w form test || assigns w body in
    let turn : Pass → ℕ = λ j. ticks π j β body + π.test in
    let over : Pass → ℕ = λ j. over_passes j form σ test body turn in
    let f : Pass → ℕ = λ j. ticks π j α rest in
    let all : Pass → ℕ = λ j. loop_ticks π form (over (later st j)) + f (later s j) in
    let go = then_first (of_trip i (trip form σ test body)) _ g in
    let g₁ = then_second (of_trip i (trip form σ test body)) _ g in
    let gb = then_first (loops_verdict β body) _ g₁ in
    let gr = then_second (loops_verdict β body) _ g₁ in
    let start : Lone κ r.by r.count σ = lone_later st k r.by r.count ρ σ (λ v h. start_kept form test ρ v h) lone in
    let passes : in_all_of r κ over ≤ in_all_of r k all = le_trans (le_of_eq (sym (all_past st r k over))) (all_le r k (λ j. over (later st j)) all (λ i _. omega (arith, loop_ticks_is π form (over (later st (pass_at k r.by i)))))) in
    some {x = line r κ i form σ test body} (le_trans (all_le r κ (λ j. turns_in j form σ test body) over (turns_within κ r.by r.count form σ test body start turn (λ j. omega arith))) passes)
    (all_append
    (wider (le_trans (all_le q first (λ j. ticks π j β body) turn (λ i _. omega arith)) (le_trans (le_of_eq (sym (all_body κ form σ test body r turn))) passes)) (totals π one body β gb q first (first_lone form σ test body i go r κ)))
    (wider (le_trans (le_of_eq (sym (all_past s r k f))) (all_le r k (λ j. f (later s j)) all (λ i _. omega arith)))
    (totals π one rest α gr r (later s k) (lone_later s k r.by r.count ρ α
    (λ v h. let (x, y) = nor (starts v form test) (assigns v body) h in loop_kept i form test body ρ v x y go) lone))))

uncut : (ls : List Line) → All (Within 1_000_000_000_001) ls → capped_lines ls ≡ ls
unfolding capped_lines Within
uncut [] none = refl
uncut (l ∷ ls) (some h a) = ap₂ ◌∷◌ (ap (λ t. record { row = l.row; step = l.step; turns = l.turns; total = t; exact = l.exact }) (let z : capped l.total ≡ l.total = omega arith in z)) (uncut ls a)

-- of a file within the limit
pub lines_true : (π : Prices) → 1 ≤ π.test → (b : Block) (ρ : Env) → loops_verdict ρ b ≡ passed → ticks π any ρ b ≤ 1_000_000_000_000 → capped_lines (lines (alike 1) any ρ b) ≡ lines (alike 1) any ρ b
unfolding Within
lines_true π one b ρ g h =
    uncut (lines (alike 1) any ρ b) (all_map (λ l k. let z : l.total ≤ sum_over any (pos 0) 1 (λ j. ticks π j ρ b) * 1 = k in omega (arith, over_once (pos 0) (λ j. ticks π j ρ b))) (totals π one b ρ g (alike 1) any tt))
