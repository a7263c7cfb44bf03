-- For code: a figure added over all passes of a loop that sums, found in one walk over its rows. Only a triangle asks for a sum over values.
use mathlib.Core.Path.{◌≡◌, refl, sym, ◌∙◌, ap}
use mathlib.Core.Bool.{Bool, true, false, cond}
use Prim.Native.Nat.{ℕ, zero, suc, ◌+◌, ◌*◌}
use native.Mathlib.Omega.{arith}
use lib.Dec.{T}
use lib.IntN.{ℤ, pos}
use Rattle.ints.proofs.Diffs.{both}
use Rattle.rules.specs.Values.{upward}
use Rattle.rules.specs.Blocks.{Test, Form, while, do_while, hold, for, Block}
use Rattle.rules.specs.Steps.{step, first_end, is_add}
use Rattle.rules.specs.Ranges.{Env, bounds, edge}
use Rattle.rules.specs.Turns.{climb, while_turns, at_test}
use Rattle.rules.specs.Passes.{Pass, any, valued, later, pass_at, sum, sum_over, sums, first_pass, from_constant, triangle, with_limit, turns_in, over_passes}
use Rattle.rules.specs.Figures.{Round, alike, often, total_of, in_body}
use Rattle.rules.proofs.Triangles.{over_sum, over_same, over_times, over_past, rising_elim, for_turns, to_constant}
use Rattle.rules.specs.Trips.{is_own, way_of, turns}
use Rattle.rules.specs.Expressions.{meaning}

-- the turns of a loop in the passes of one entry of the loop round it
abbrev pub turns_walk : Round → Pass → Form → Env → Test → Block → ℕ
turns_walk r k form ρ test body = sum_over k r.by r.count (λ j. turns_in j form ρ test body)

-- a triangle's turns for the value x: those from its start to x, or to x − 1
pub triangle_turns : (v : ℕ) (x : ℤ) (form : Form) (ρ : Env) (test : Test) (body : Block) → T (triangle v form test body)
    → turns form ρ (with_limit x test) body
    ≡ climb (record { start = (ρ test.tested).lo; limit = edge test.comparison (record { lo = x; hi = x }); step = first_end (step test.tested body) })
unfolding triangle bounds meaning while_turns at_test first_end
triangle_turns v x while ρ test body t = absurd t
triangle_turns v x do_while ρ test body t = absurd t
triangle_turns v x hold ρ test body t = absurd t
triangle_turns v x (for o) ρ test body t =
    let st = step test.tested body in
    let s = ρ test.tested in
    let e = edge test.comparison (record { lo = x; hi = x }) in
    let (_, t₁) = both (from_constant (for o)) _ t in
    let (_, t₂) = both (is_own (way_of (for o) test body)) _ t₁ in
    let (add, t₃) = both (is_add st) _ t₂ in
    let (up, _) = both (upward test.comparison) _ t₃ in
    for_turns o ρ (with_limit x test) body (to_constant o x test body)
    ∙ rising_elim (λ st o. while_turns st o (at_test false st s) (record { lo = x; hi = x }) e ≡ climb (record { start = s.lo; limit = e; step = first_end st })) st test.comparison add up (λ a b. refl)

-- ---- sums of figures
sum_add : (f g : ℕ → ℕ) (i n : ℕ) → sum (λ j. f j + g j) i n ≡ sum f i n + sum g i n
unfolding sum
sum_add f g i zero = refl
sum_add f g i (suc n) = omega (arith, sum_add f g (suc i) n)

pub over_add : (k : Pass) (a : ℤ) (n : ℕ) (f g : Pass → ℕ) → sum_over k a n (λ j. f j + g j) ≡ sum_over k a n f + sum_over k a n g
over_add k a n f g = omega (arith, over_sum k a n (λ j. f j + g j), over_sum k a n f, over_sum k a n g, sum_add (λ i. f (pass_at k a i)) (λ i. g (pass_at k a i)) 0 n)

-- a part that takes c in each pass, then the rest
pub over_then : (assigned : ℕ → Bool) (k : Pass) (a : ℤ) (n : ℕ) (f g : Pass → ℕ)
    → sum_over k a n (λ j. f j + g (later assigned j)) ≡ sum_over k a n f + sum_over (later assigned k) a n g
over_then assigned k a n f g = omega (arith, over_add k a n f (λ j. g (later assigned j)), over_past assigned k a n g)

pub over_once : (a : ℤ) (f : Pass → ℕ) → sum_over any a 1 f ≡ f any
unfolding sum_over
over_once a f = omega arith

-- the passes of a loop, each time that its body is walked
pub passes_walk : (r : Round) (k : Pass) (form : Form) (ρ : Env) (test : Test) (body : Block) (f : Pass → ℕ)
    → sum_over k r.by r.count (λ j. over_passes j form ρ test body f)
    ≡ cond (sums form ρ test body) r.count (turns_walk r k form ρ test body)
    * sum_over (first_pass form ρ test body) (in_body r k form ρ test body).by (in_body r k form ρ test body).count f
unfolding over_passes first_pass in_body
passes_walk r k form ρ test body f = by (sums form ρ test body)
  where
    first : Bool → Pass
    first b = cond b (valued test.tested (ρ test.tested).lo) any

    round : Bool → Round
    round b = cond b (record { count = turns form ρ test body; by = first_end (step test.tested body); times = often r }) (alike (total_of r k form ρ test body))

    by : (b : Bool) → sum_over k r.by r.count (λ j. cond b (sum_over (first b) (first_end (step test.tested body)) (turns form ρ test body) f) (turns_in j form ρ test body * f any))
        ≡ cond b r.count (turns_walk r k form ρ test body) * sum_over (first b) (round b).by (round b).count f
    by true = over_same k r.by r.count _
    by false = over_times k r.by r.count (λ j. turns_in j form ρ test body) (f any) ∙ ap (λ z. turns_walk r k form ρ test body * z) (sym (over_once (pos 0) f))
