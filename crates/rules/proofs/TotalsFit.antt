-- Totals and turns keep within ticks.
use mathlib.Core.Path.{◌≡◌, ap}
use mathlib.Core.Bool.{◌||◌}
use mathlib.Core.List.{List}
use Prim.Native.Nat.{ℕ, zero, suc, ◌+◌, ◌*◌, ◌≤◌}
use native.Mathlib.Nat.{mul-le-mul_right, mul-le-mul_left}
use native.Mathlib.Omega.{arith}
use lib.IntN.{ℤ}
use Rattle.ints.proofs.Diffs.{cond_elim, nor}
use Rattle.rules.specs.Blocks.{Test, Form, while, do_while, hold, for, Block, done, plain, pick, loop}
use Rattle.rules.specs.Steps.{sets, starts, assigns, step, first_end}
use Rattle.rules.specs.Ranges.{Env, after_row, join, at_start}
use Rattle.rules.specs.Trips.{turns, inside, outside, after}
use Rattle.rules.specs.Passes.{Pass, any, later, start_pass, pass_at, first_pass, turns_in, sums, sum, sum_over, over_passes}
use Rattle.rules.specs.Figures.{Prices, loop_ticks, ticks, Line, Round, alike, often, in_all_of, total_of, in_body, lines}
use Rattle.rules.specs.Questions.{passed, loops_verdict, blocks_verdict, verdict}
use Rattle.rules.specs.Scripts.{All, none, some, start_env, tree_of}
use Rattle.rules.specs.Calls.{prices_of}
use Rattle.rules.specs.Formulas.{TotalsWithinTicks, TurnsWithinLimit}
use Rattle.rules.proofs.Accepted.{then_yes}
use Rattle.rules.proofs.Triangles.{over_sum, over_same, all_past, all_any, all_body}
use Rattle.rules.proofs.Totals.{Wide, wide_later, first_wide, often_total, all_append, wider_same, wider_then, wider_join, row_kept, start_kept, kept_range, loop_wider}
use Rattle.rules.proofs.Yes.{within_yes}
use Rattle.rules.proofs.Demand3File.{file_accepted, test_priced}

-- ---- a larger figure in each pass
sum_mono : (f g : ℕ → ℕ) (i n : ℕ) → ((j : ℕ) → f j ≤ g j) → sum f i n ≤ sum g i n
unfolding sum
sum_mono f g i zero h = omega arith
sum_mono f g i (suc n) h = omega (arith, h i, sum_mono f g (suc i) n h)

over_mono : (k : Pass) (a : ℤ) (n : ℕ) (f g : Pass → ℕ) → ((j : Pass) → f j ≤ g j) → sum_over k a n f ≤ sum_over k a n g
over_mono k a n f g h = omega (arith, over_sum k a n f, over_sum k a n g, sum_mono (λ i. f (pass_at k a i)) (λ i. g (pass_at k a i)) 0 n (λ i. h (pass_at k a i)))

all_mono : (r : Round) (k : Pass) (f g : Pass → ℕ) → ((j : Pass) → f j ≤ g j) → in_all_of r k f ≤ in_all_of r k g
all_mono r k f g h = mul-le-mul_right r.times (over_mono k r.by r.count f g h)

-- as many as there are passes, at least
all_some : (r : Round) (k : Pass) (f : Pass → ℕ) → ((j : Pass) → 1 ≤ f j) → often r ≤ in_all_of r k f
all_some r k f h =
    let e : sum_over k r.by r.count (λ _. 1) ≡ r.count = omega (arith, over_same k r.by r.count 1) in
    omega (arith, all_mono r k (λ _. 1) f h, ap (λ z. z * r.times) e)

loop_more : (π : Prices) (form : Form) (n : ℕ) → n ≤ loop_ticks π form n
unfolding loop_ticks
loop_more π while n = omega arith
loop_more π do_while n = omega arith
loop_more π hold n = omega arith
loop_more π (for x) n = omega arith

all_weaken : {Q R : Line → Type 0} {ls : List Line} → ((l : Line) → Q l → R l) → All Q ls → All R ls
all_weaken f none = none
all_weaken f (some h t) = some (f _ h) (all_weaken f t)

abbrev Below : ℕ → Line → Type 0
Below n l = l.total ≤ n

lower : {ls : List Line} (m n : ℕ) → m ≤ n → All (Below m) ls → All (Below n) ls
lower m n h = all_weaken (λ l k. omega arith)

module _ (π : Prices) (one : 1 ≤ π.test) where
  fit : (b : Block) (r : Round) (k : Pass) (ρ : Env) → loops_verdict ρ b ≡ passed → Wide r k ρ → All (Below (in_all_of r k (λ j. ticks π j ρ b))) (lines r k ρ b)
  unfolding loops_verdict lines ticks
  fit done r k ρ q w = none
  fit (plain i p rest) r k ρ q w =
      let σ = after_row ρ p in
      lower _ _ (omega (arith, all_past (λ w. sets w p) r k (λ j. ticks π j σ rest), all_mono r k (λ j. ticks π (later (λ w. sets w p) j) σ rest) (λ j. ticks π j ρ (plain i p rest)) (λ j. omega arith)))
      (fit rest r _ σ q (wide_later (λ w. sets w p) r k ρ σ (λ v n. wider_same _ _ (row_kept p ρ v n)) w))
  fit (pick i e a b rest) r k ρ q w =
      let σ = join (after ρ a) (after ρ b) in
      let (qa, q₁) = then_yes (loops_verdict ρ a) _ q in
      let (qb, q₂) = then_yes (loops_verdict ρ b) _ q₁ in
      let all : Pass → ℕ = λ j. ticks π j ρ (pick i e a b rest) in
      all_append
      (lower _ _ (omega (arith, all_any r k (λ j. ticks π j ρ a), all_mono r k (λ _. ticks π any ρ a) all (λ j. omega arith))) (fit a _ any ρ qa tt))
      (all_append (lower _ _ (omega (arith, all_any r k (λ j. ticks π j ρ b), all_mono r k (λ _. ticks π any ρ b) all (λ j. omega arith))) (fit b _ any ρ qb tt))
      (lower _ _ (omega (arith, all_past (λ w. assigns w a || assigns w b) r k (λ j. ticks π j σ rest), all_mono r k (λ j. ticks π (later (λ w. assigns w a || assigns w b) j) σ rest) all (λ j. omega arith)))
      (fit rest r _ σ q₂ (wide_later (λ w. assigns w a || assigns w b) r k ρ σ (λ v n. wider_join (after ρ a) (after ρ b) v (kept_range a ρ qa v (nor (assigns v a) (assigns v b) n).0)) w))))
  fit (loop i e form test body rest) r k ρ q w =
      let σ = at_start form test ρ in
      let out = outside form σ test body in
      let (q₀, q₁) = then_yes _ _ q in
      let (qb, q₂) = then_yes (loops_verdict (inside form σ test body) body) _ q₁ in
      let k' = start_pass form test k in
      let wide = wide_later (λ w. starts w form test) r k ρ σ (λ v n. wider_same _ _ (start_kept form test ρ v n)) w in
      let all : Pass → ℕ = λ j. ticks π j ρ (loop i e form test body rest) in
      let one-pass : Pass → ℕ = λ j. ticks π j (inside form σ test body) body + π.test in
      let in_all : in_all_of (in_body r k' form σ test body) (first_pass form σ test body) one-pass ≤ in_all_of r k all
      = omega (
        arith,
        all_body k' form σ test body r one-pass,
        all_past (λ w. starts w form test) r k (λ j. over_passes j form σ test body one-pass),
        all_mono r k (λ j. over_passes (start_pass form test j) form σ test body one-pass) all (λ j. omega (arith, loop_more π form (over_passes (start_pass form test j) form σ test body one-pass))),
      ) in
      let mine : total_of r k' form σ test body ≤ in_all_of r k all
      = omega (arith, often_total r k' form σ test body wide, all_some (in_body r k' form σ test body) (first_pass form σ test body) one-pass (λ j. omega arith)) in
      some mine
      (all_append (lower (in_all_of (in_body r k' form σ test body) (first_pass form σ test body) (λ j. ticks π j (inside form σ test body) body)) (in_all_of r k all) (omega (arith, all_mono (in_body r k' form σ test body) (first_pass form σ test body) (λ j. ticks π j (inside form σ test body) body) one-pass (λ j. omega arith)))
      (fit body (in_body r k' form σ test body) (first_pass form σ test body) (inside form σ test body) qb (first_wide i form σ test body r k' q₀)))
      (lower (in_all_of r (later (λ w. starts w form test || assigns w body) k) (λ j. ticks π j out rest)) (in_all_of r k all) (omega (arith, all_past (λ w. starts w form test || assigns w body) r k (λ j. ticks π j out rest), all_mono r k (λ j. ticks π (later (λ w. starts w form test || assigns w body) j) out rest) all (λ j. omega arith)))
      (fit rest r _ out q₂ (wide_later (λ w. starts w form test || assigns w body) r k ρ out
      (λ v n. let (a, b) = nor (starts v form test) (assigns v body) n in wider_then (wider_same (ρ v) (σ v) (start_kept form test ρ v a)) (loop_wider i form σ test body q₀ v b)) w))))

  -- ---- turns
  enough : (form : Form) (ρ : Env) (test : Test) (body : Block) (f : Pass → ℕ) → ((j : Pass) → 1 ≤ f j) → turns form ρ test body ≤ over_passes any form ρ test body f
  unfolding over_passes turns_in
  enough form ρ test body f h =
      let n = turns form ρ test body in
      let a = first_end (step test.tested body) in
      cond_elim (λ z. n ≤ z) (sums form ρ test body) _ _
      (λ _. omega (arith, over_mono (first_pass form ρ test body) a n (λ _. 1) f h, over_same (first_pass form ρ test body) a n 1))
      (λ _. omega (arith, mul-le-mul_left n (h any)))

  few : (b : Block) (r : Round) (k : Pass) (ρ : Env) → blocks_verdict π ρ b ≡ passed → All (λ l. l.turns ≤ 1_000_000_000_000) (lines r k ρ b)
  unfolding blocks_verdict lines
  few done r k ρ q = none
  few (plain i p rest) r k ρ q = few rest r _ (after_row ρ p) q
  few (pick i e a b rest) r k ρ q =
      let (qa, q₁) = then_yes (blocks_verdict π ρ a) _ q in
      let (qb, q₂) = then_yes (blocks_verdict π ρ b) _ q₁ in
      all_append (few a _ any ρ qa) (all_append (few b _ any ρ qb) (few rest r _ (join (after ρ a) (after ρ b)) (within_yes e _ _ q₂).1))
  few (loop i e form test body rest) r k ρ q =
      let σ = at_start form test ρ in
      let (qb, q₁) = then_yes (blocks_verdict π (inside form σ test body) body) _ q in
      let (le, q₂) = within_yes e _ _ q₁ in
      let one-pass : Pass → ℕ = λ j. ticks π j (inside form σ test body) body + π.test in
      let mine : turns form σ test body ≤ 1_000_000_000_000 = omega (arith, loop_more π form (over_passes any form σ test body one-pass), enough form σ test body one-pass (λ j. omega arith)) in
      some mine
      (all_append (few body _ _ (inside form σ test body) qb) (few rest r _ (outside form σ test body) q₂))

pub totals_within_ticks : TotalsWithinTicks
unfolding TotalsWithinTicks verdict sum_over
totals_within_ticks prices scratch file script e =
    let f = file_accepted prices scratch file script e in
    let ρ = start_env script.ranges in
    let tree = tree_of script.rows in
    let (passes, _) = then_yes (loops_verdict ρ tree) _ f.script_accepted.loops in
    lower _ _ (omega arith) (fit (prices_of prices) (test_priced prices f.priced) tree (alike 1) any ρ passes tt)

pub turns_within_limit : TurnsWithinLimit
unfolding TurnsWithinLimit verdict
turns_within_limit prices scratch file script e =
    let f = file_accepted prices scratch file script e in
    let ρ = start_env script.ranges in
    let tree = tree_of script.rows in
    let (_, q) = then_yes (loops_verdict ρ tree) _ f.script_accepted.loops in
    let (passes, _) = then_yes (blocks_verdict (prices_of prices) ρ tree) _ q in
    few (prices_of prices) (test_priced prices f.priced) tree (alike 1) any ρ passes
