-- Document 01's formulas for ticks.
use mathlib.Core.Path.{◌≡◌, refl, sym, ◌∙◌, ap, ap₂, fun_ext}
use mathlib.Core.Bool.{Bool, true, false, cond, ◌||◌}
use Prim.Native.Nat.{ℕ, ◌+◌, ◌*◌, max}
use native.Mathlib.Omega.{arith}
use lib.Dec.{T, eqb}
use lib.IntN.{ℤ, pos, ◌+ℤ◌, ◌*ℤ◌}
use Rattle.ints.proofs.Diffs.{cond_elim, cond_true, cond_false}
use Rattle.rules.specs.Blocks.{Plain, assign, cue, Test, Form, while, do_while, hold, for, Block, done, plain, pick, loop, snoc}
use Rattle.rules.specs.Steps.{sets, starts, assigns, step, first_end}
use Rattle.rules.specs.Ranges.{Env, after_row, join, at_start}
use Rattle.rules.specs.Trips.{turns, inside, outside, after}
use Rattle.rules.specs.Passes.{Pass, any, valued, later, start_pass, first_pass, triangle, with_limit, turns_in, sums, sum, sum_over, over_passes}
use Rattle.rules.specs.Figures.{Prices, ones, price, loop_ticks, ticks}
use Rattle.rules.specs.Formulas.{NoTriangle, one_pass, PlainTicks, PickTicks, WhileTicks, HoldTicks, DoTicks, ForTicks, SummedTicks, TriangleTicks}
use Rattle.rules.proofs.Triangles.{over_sum}

-- what is known of v makes no difference where no loop is a triangle over it
later_elim : (Q : Pass → Type 0) (assigned : ℕ → Bool) (v : ℕ) (x : ℤ) → Q any → Q (valued v x) → Q (later assigned (valued v x))
unfolding later
later_elim Q assigned v x a b = cond_elim Q (assigned v) any (valued v x) (λ _. a) (λ _. b)

passes_by : (form : Form) (ρ : Env) (test : Test) (body : Block) (f : Pass → ℕ) (j k : Pass) → turns_in j form ρ test body ≡ turns_in k form ρ test body
    → over_passes j form ρ test body f ≡ over_passes k form ρ test body f
unfolding over_passes
passes_by form ρ test body f j k e =
    ap (λ n. cond (sums form ρ test body) (sum_over (first_pass form ρ test body) (first_end (step test.tested body)) (turns form ρ test body) f) (n * f any)) e

module _ (π : Prices) (v : ℕ) (x : ℤ) where
  no_matter : (b : Block) (ρ : Env) → NoTriangle v b → ticks π (valued v x) ρ b ≡ ticks π any ρ b
  unfolding ticks NoTriangle turns_in later
  no_matter done ρ h = refl
  no_matter (plain i p rest) ρ h =
      ap (λ n. price π p + n) (later_elim (λ k. ticks π k (after_row ρ p) rest ≡ ticks π any (after_row ρ p) rest) (λ w. sets w p) v x refl (no_matter rest (after_row ρ p) h))
  no_matter (pick i e a b rest) ρ h =
      let σ = join (after ρ a) (after ρ b) in
      ap (λ n. π.pick + max (ticks π any ρ a) (ticks π any ρ b) + n) (later_elim (λ k. ticks π k σ rest ≡ ticks π any σ rest) (λ w. assigns w a || assigns w b) v x refl (no_matter rest σ h))
  no_matter (loop i e form test body rest) ρ (t, h) =
      let σ = at_start form test ρ in
      let out = outside form σ test body in
      ap₂ (λ m n. loop_ticks π form m + n)
      (passes_by form σ test body (λ j. ticks π j (inside form σ test body) body + π.test) (start_pass form test (valued v x)) any
      (later_elim (λ k. turns_in k form σ test body ≡ turns form σ test body) (λ w. starts w form test) v x refl (cond_false (triangle v form test body) _ _ t)))
      (later_elim (λ k. ticks π k out rest ≡ ticks π any out rest) (λ w. starts w form test || assigns w body) v x refl (no_matter rest out h))

over_any : (a : ℤ) (n : ℕ) (f : Pass → ℕ) → sum_over any a n f ≡ n * f any
unfolding sum_over
over_any a n f = refl

-- N passes of one figure
all_passes : (π : Prices) (form : Form) (ρ : Env) (test : Test) (body : Block) → NoTriangle test.tested body
    → over_passes any form ρ test body (λ j. ticks π j (inside form ρ test body) body + π.test) ≡ turns form ρ test body * (ticks π any (inside form ρ test body) body + π.test)
unfolding over_passes turns_in first_pass
all_passes π form ρ test body h = by (sums form ρ test body)
  where
    n : ℕ
    n = turns form ρ test body

    a : ℤ
    a = first_end (step test.tested body)

    f : Pass → ℕ
    f j = ticks π j (inside form ρ test body) body + π.test

    by : (b : Bool) → cond b (sum_over (cond b (valued test.tested (ρ test.tested).lo) any) a n f) (n * f any) ≡ n * f any
    by true =
        over_sum (valued test.tested (ρ test.tested).lo) a n f
        ∙ ap (λ g. sum g 0 n) (fun_ext (λ i. ap (λ z. z + π.test) (no_matter π test.tested ((ρ test.tested).lo +ℤ a *ℤ pos i) body (inside form ρ test body) h)))
        ∙ sym (over_sum any a n f) ∙ over_any a n f
    by false = refl

pub plain_ticks : PlainTicks
unfolding PlainTicks ticks price later
plain_ticks i (assign v x) rest ρ = refl
plain_ticks i (cue n) rest ρ = refl

pub pick_ticks_lem : PickTicks
unfolding PickTicks ticks later
pick_ticks_lem i e a b rest ρ = refl

pub while_ticks : WhileTicks
unfolding WhileTicks ticks loop_ticks later at_start
while_ticks i e test body rest ρ h = omega (arith, all_passes ones while ρ test body h)

pub hold_ticks : HoldTicks
unfolding HoldTicks ticks loop_ticks later at_start
hold_ticks i e test body rest ρ h = omega (arith, all_passes ones hold ρ test body h)

pub do_ticks : DoTicks
unfolding DoTicks ticks loop_ticks later at_start
do_ticks i e test body rest ρ h = omega (arith, all_passes ones do_while ρ test body h)

-- one more row at the end
last_row_lem : (b : Block) (i : ℕ) (p : Plain) (ρ : Env) → ticks ones any ρ (snoc b i p) ≡ ticks ones any ρ b + 1
unfolding ticks snoc later price
last_row_lem done i (assign v x) ρ = refl
last_row_lem done i (cue n) ρ = refl
last_row_lem (plain j q rest) i p ρ = omega (arith, last_row_lem rest i p (after_row ρ q))
last_row_lem (pick j e a b rest) i p ρ = omega (arith, last_row_lem rest i p (join (after ρ a) (after ρ b)))
last_row_lem (loop j e form test body rest) i p ρ = omega (arith, last_row_lem rest i p (outside form (at_start form test ρ) test body))

pub for_ticks : ForTicks
unfolding ForTicks ticks loop_ticks later
for_ticks i e x test b p rest ρ h =
    let σ = at_start (for x) test ρ in
    let n = turns (for x) σ test (snoc b i p) in
    let l = last_row_lem b i p (inside (for x) σ test (snoc b i p)) in
    omega (arith, all_passes ones (for x) σ test (snoc b i p) h, ap (λ z. n * (z + 1)) l)

-- ---- change 9
pub summed_ticks : SummedTicks
unfolding SummedTicks ticks later over_passes first_pass sum_over
summed_ticks i e form test body rest ρ h =
    let σ = at_start form test ρ in
    ap (λ n. loop_ticks ones form n + one_pass (outside form σ test body) rest)
    (by test.tested (σ test.tested).lo (first_end (step test.tested body)) (turns form σ test body) (λ k. ticks ones k (inside form σ test body) body + 1) _ (sums form σ test body) h)
  where
    by : (v : ℕ) (x a : ℤ) (n : ℕ) (f : Pass → ℕ) (m : ℕ) (c : Bool) → T c → cond c (sum_over (cond c (valued v x) any) a n f) m ≡ sum (λ j. f (valued v (x +ℤ a *ℤ pos j))) 0 n
    by v x a n f m true t = refl
    by v x a n f m false t = absurd t

pub triangle_ticks : TriangleTicks
unfolding TriangleTicks ticks loop_ticks later over_passes turns_in
triangle_ticks i e v y x test b p ρ apart is no-sum =
    let σ = at_start (for x) test ρ in
    let body = snoc b i p in
    let B = ticks ones any (inside (for x) σ test body) body in
    let M = turns (for x) σ (with_limit y test) body in
    let known = cond_false (eqb v test.tested) any (valued v y) apart in
    let passes : over_passes (later (λ w. eqb w test.tested) (valued v y)) (for x) σ test body (λ j. ticks ones j (inside (for x) σ test body) body + 1) ≡ M * (B + 1)
    = cond_false (sums (for x) σ test body) _ _ no-sum ∙ ap (λ k. turns_in k (for x) σ test body * (B + 1)) known ∙ ap (λ n. n * (B + 1)) (cond_true (triangle v (for x) test body) M (turns (for x) σ test body) is) in
    omega (arith, passes, ap (λ z. M * (z + 1)) (last_row_lem b i p (inside (for x) σ test body)))
