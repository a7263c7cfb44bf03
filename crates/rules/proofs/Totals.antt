-- Document 01's totals: turns times the total of the loop next round.
use mathlib.Core.Path.{◌≡◌, refl, sym, ◌∙◌, ap, subst, fun_ext}
use mathlib.Core.Bool.{Bool, true, false, not, cond, ◌||◌}
use mathlib.Core.List.{List, [], ◌∷◌, ◌++◌}
use Prim.Native.Nat.{ℕ, zero, suc, ◌+◌, ◌*◌, ◌≤◌, ◌<◌}
use native.Mathlib.Nat.{mul-le-mul_right}
use native.Mathlib.Omega.{arith}
use lib.Dec.{T, eqb, eqb→eq, eqb_refl}
use lib.IntN.{ℤ, pos, ◌+ℤ◌, ◌*ℤ◌}
use Rattle.ints.specs.Ints
use Rattle.ints.proofs.Parts.{P, N, eq_z_true, is_true, eq_in, add_parts, eq_out}
use Rattle.ints.proofs.Scale.{mul_P, mul_N}
use Rattle.ints.proofs.Diffs.{of, ◌≼◌, eq_yes, cond_elim, cond_true, cond_false, both, nor, min_le, max_ge}
use Rattle.rules.specs.declared.Comparison.{Comparison}
use Rattle.rules.specs.declared.Comparison.TheVariants.{Less, AtMost, Greater, AtLeast, Equal, Different}
use Rattle.rules_steps.specs.declared.Step.{Step}
use Rattle.rules_steps.specs.declared.Step.TheVariants.{Add, Grow, Shrink, Unknown}
use Rattle.rules_steps.specs.Joins.{still, then, either}
use Rattle.rules.specs.Values.{compares, upward, lowest, highest}
use Rattle.rules.specs.Blocks.{Plain, assign, cue, Test, Form, while, do_while, hold, for, Block, done, plain, pick, loop}
use Rattle.rules.specs.Steps.{sets, starts, assigns, row_step, step_from, step, first_end, is_add, equal_ends}
use Rattle.rules.specs.Ranges.{Range, Env, full, single, bounds, after_row, join, at_start, edge, Sort, rising, falling, same, differ, ordered, sort, is_do, inside_range}
use Rattle.rules.specs.Trips.{Way, own, broken, copied, chase, watched, way_of, is_own, is_exact, own_trip, trip_by, trip, turns, turns_of, inner_of, outer_of, loop_env, inside, outside, after}
use Rattle.rules.specs.Passes.{Pass, any, valued, later, start_pass, pass_at, first_pass, from_constant, triangle, with_limit, turns_in, sums, sum}
use Rattle.rules.specs.Figures.{Round, alike, often, total_of, in_body, lines}
use Rattle.rules.specs.Questions.{passed, loops_verdict, verdict, of_trip}
use Rattle.rules.specs.Scripts.{All, none, some, Script, start_env, tree_of}
use Rattle.rules.specs.Calls.{accepted, judged}
use Rattle.rules.proofs.Stepping.{own_turns}
use Rattle.rules.proofs.FiguresCounted.{figures_counted}
use Rattle.rules.specs.Count.{FiguresCounted, worst_move, worst_start, worst_limit}
use Rattle.rules.specs.Stepping.{Place, at_a_test, at_body, Stepped, leaves, enters, takes, begins}
use Rattle.rules.specs.Formulas.{is_summed, sum_of_values, Placed, placed, lines_in, script_placed, LinesPlaced, TotalsMultiply, TrianglesSum}
use Rattle.rules.proofs.Links.{Inside, Fit}
use Rattle.rules.proofs.Chain.{passes}
use Rattle.rules.proofs.Accepted.{then_yes, loop_fits}
use Rattle.rules.proofs.Triangles.{own_trip_lem, exact_terms, limit_range, one_value, over_sum}
use Rattle.rules.proofs.Demand3File.{file_accepted}

-- ---- a variable that a block does not assign: its step, and its range
still_step : (b : Block) (w : ℕ) → T (not (assigns w b)) → step w b ≡ still
unfolding assigns step_from row_step sets then either Ints.min_z Ints.max_z
still_step done w h = refl
still_step (plain i (cue n) rest) w h = still_step rest w h
still_step (plain i (assign v x) rest) w h =
    let (a, b) = nor (eqb w v) (assigns w rest) h in
    ap (λ st. step_from (then still st) w rest) (cond_false (eqb w v) _ still a) ∙ still_step rest w b
still_step (pick i e a b rest) w h =
    let (u, v) = nor (assigns w a || assigns w b) (assigns w rest) h in
    let (p, q) = nor (assigns w a) (assigns w b) u in
    rw (still_step a w p, still_step b w q) (still_step rest w v)
still_step (loop i e form test body rest) w h =
    let (u, v) = nor (starts w form test || assigns w body) (assigns w rest) h in
    ap (λ st. step_from (then still st) w rest) (cond_false (starts w form test || assigns w body) Unknown still u) ∙ still_step rest w v

-- b holds what a holds, or everything
pub data Wider (a b : Range) : Type 0 where
  wider : of b.lo ≼ of a.lo → of a.hi ≼ of b.hi → Wider a b
  free : of b.lo ≼ of lowest → of highest ≼ of b.hi → Wider a b

pub wider_same : (a b : Range) → b ≡ a → Wider a b
wider_same a b e = subst (λ z. Wider a z) (sym e) (wider (omega arith) (omega arith))

pub wider_then : {a b c : Range} → Wider a b → Wider b c → Wider a c
wider_then h (free x y) = free x y
wider_then (wider x y) (wider u v) = wider (omega arith) (omega arith)
wider_then (free x y) (wider u v) = free (omega arith) (omega arith)

pub wider_join : {a : Range} (ρ σ : Env) (v : ℕ) → Wider a (ρ v) → Wider a (join ρ σ v)
unfolding join
wider_join ρ σ v (wider x y) = wider (omega (arith, min_le (ρ v).lo (σ v).lo)) (omega (arith, max_ge (ρ v).hi (σ v).hi))
wider_join ρ σ v (free x y) = free (omega (arith, min_le (ρ v).lo (σ v).lo)) (omega (arith, max_ge (ρ v).hi (σ v).hi))

pub row_kept : (p : Plain) (ρ : Env) (v : ℕ) → T (not (sets v p)) → after_row ρ p v ≡ ρ v
unfolding after_row sets
row_kept (assign w x) ρ v h = cond_false (eqb v w) _ (ρ v) h
row_kept (cue n) ρ v h = refl

pub start_kept : (form : Form) (test : Test) (ρ : Env) (v : ℕ) → T (not (starts v form test)) → at_start form test ρ v ≡ ρ v
unfolding at_start
start_kept while test ρ v h = refl
start_kept do_while test ρ v h = refl
start_kept hold test ρ v h = refl
start_kept (for x) test ρ v h = cond_false (eqb v test.tested) _ (ρ v) h

-- a loop that passes its questions does not test a variable that stands, unless its ranges are open
not_still : (d : Sort) (s r n : Range) (e : ℤ) → Fit still d s r n e → ⊥
unfolding Fit
not_still rising s r n e h = omega arith
not_still falling s r n e h = omega arith
not_still same s r n e h = h
not_still differ s r n e h = h.0

stands : (st : Step) (d : Sort) (s r n : Range) (e : ℤ) → st ≡ still → Fit st d s r n e → ⊥
stands st d s r n e q h = not_still d s r n e (subst (λ z. Fit z d s r n e) q h)

module _ (i : ℕ) (form : Form) (ρ : Env) (test : Test) (body : Block) where
  tested_open : (way : Way) → of_trip i (trip_by way form ρ test body) ≡ passed → T (not (assigns test.tested body)) → Wider (ρ test.tested) (outer_of (trip_by way form ρ test body))
  unfolding trip_by outer_of
  tested_open own q h = absurd (stands (step test.tested body) _ _ _ _ _ (still_step body test.tested h) (loop_fits i _ _ _ _ _ _ _ _ q).0)
  tested_open (copied w ahead) q h = free (omega arith) (omega arith)
  tested_open (chase w) q h = free (omega arith) (omega arith)
  tested_open (watched w c k ahead) q h = free (omega arith) (omega arith)
  tested_open broken q h = absurd (loop_fits i _ _ _ _ _ _ _ _ q).2

  pub loop_wider : of_trip i (trip form ρ test body) ≡ passed → (v : ℕ) → T (not (assigns v body)) → Wider (ρ v) (outside form ρ test body v)
  unfolding loop_env
  loop_wider q v h = cond_elim (Wider (ρ v)) (eqb v test.tested) (outer_of (trip form ρ test body)) _
      (λ t. let e = eqb→eq v test.tested t in subst (λ z. Wider (ρ z) (outer_of (trip form ρ test body))) (sym e) (tested_open (way_of form test body) q (subst (λ z. T (not (assigns z body))) e h)))
      (λ _. wider_same (ρ v) _ (cond_false (assigns v body) full (ρ v) h))

pub kept_range : (b : Block) (ρ : Env) → loops_verdict ρ b ≡ passed → (v : ℕ) → T (not (assigns v b)) → Wider (ρ v) (after ρ b v)
unfolding loops_verdict after assigns
kept_range done ρ q v h = wider_same (ρ v) (ρ v) refl
kept_range (plain i p rest) ρ q v h =
    let (a, b) = nor (sets v p) (assigns v rest) h in
    wider_then (wider_same (ρ v) (after_row ρ p v) (row_kept p ρ v a)) (kept_range rest (after_row ρ p) q v b)
kept_range (pick i e a b rest) ρ q v h =
    let (x, y) = then_yes (loops_verdict ρ a) _ q in
    let (_, z) = then_yes (loops_verdict ρ b) _ y in
    let (u, w) = nor (assigns v a || assigns v b) (assigns v rest) h in
    let (p, _) = nor (assigns v a) (assigns v b) u in
    wider_then (wider_join (after ρ a) (after ρ b) v (kept_range a ρ x v p)) (kept_range rest (join (after ρ a) (after ρ b)) z v w)
kept_range (loop i e form test body rest) ρ q v h =
    let σ = at_start form test ρ in
    let (x, y) = then_yes _ _ q in
    let (_, z) = then_yes (loops_verdict (inside form σ test body) body) _ y in
    let (u, w) = nor (starts v form test || assigns v body) (assigns v rest) h in
    let (a, b) = nor (starts v form test) (assigns v body) u in
    wider_then (wider_same (ρ v) (σ v) (start_kept form test ρ v a)) (wider_then (loop_wider i form σ test body x v b) (kept_range rest (outside form σ test body) z v w))

-- ---- the values of a round lie in the range of its variable
pub data InRound (r : Round) (a : Range) (x : ℤ) : Type 0 where
  lie : ((i : ℕ) → i < r.count → Inside a (x +ℤ r.by *ℤ pos i)) → InRound r a x
  open-ended : of a.lo ≼ of lowest → of highest ≼ of a.hi → InRound r a x

abbrev pub Wide : Round → Pass → Env → Type 0
Wide r any ρ = Unit {0}
Wide r (valued v x) ρ = InRound r (ρ v) x

round_wider : {r : Round} {a b : Range} {x : ℤ} → Wider a b → InRound r a x → InRound r b x
round_wider (free x y) h = open-ended x y
round_wider (wider x y) (lie f) = lie (λ i lt. omega (arith, f i lt))
round_wider (wider x y) (open-ended u v) = open-ended (omega arith) (omega arith)

pub wide_later : (assigned : ℕ → Bool) (r : Round) (k : Pass) (ρ σ : Env) → ((v : ℕ) → T (not (assigned v)) → Wider (ρ v) (σ v)) → Wide r k ρ → Wide r (later assigned k) σ
unfolding later
wide_later assigned r any ρ σ f h = tt
wide_later assigned r (valued v x) ρ σ f h = cond_elim (λ k. Wide r k σ) (assigned v) any (valued v x) (λ _. tt) (λ t. round_wider (f v t) h)

-- ---- the values of a loop that sums lie in its variable's range at the body's start
step_on : (x c : ℤ) (i : ℕ) → (x +ℤ c) +ℤ c *ℤ pos i ≡ x +ℤ c *ℤ pos (suc i)
step_on x c i = eq_out _ _ (omega (arith, add_parts x c, add_parts (x +ℤ c) (c *ℤ pos i), add_parts x (c *ℤ pos (suc i)), mul_P c i, mul_N c i, mul_P c (suc i), mul_N c (suc i)))

step_off : (x c : ℤ) → x ≡ x +ℤ c *ℤ pos 0
step_off x c = eq_out _ _ (omega (arith, add_parts x (c *ℤ pos 0), mul_P c 0, mul_N c 0))

module _ (test : ℤ → Bool) (c : ℤ) where
  -- each turn but a do's first has been tested
  seen : {x : ℤ} {n : ℕ} → Stepped test (λ y. y +ℤ c) at_a_test x n → (i : ℕ) → i < n → T (test (x +ℤ c *ℤ pos i))
  seen (leaves h) i lt = absurd (omega arith)
  seen (enters {x = x} h (takes s)) zero lt = subst (λ z. T (test z)) (step_off x c) h
  seen (enters {x = x} h (takes s)) (suc i) lt = subst (λ z. T (test z)) (step_on x c i) (seen s i (omega arith))

  seen_do : {x : ℤ} {n : ℕ} → Stepped test (λ y. y +ℤ c) at_body x n → (i : ℕ) → suc i < n → T (test (x +ℤ c *ℤ pos (suc i)))
  seen_do (takes {x = x} s) i lt = subst (λ z. T (test z)) (step_on x c i) (seen s i (omega arith))

-- j steps up, or down, from x
up_from : (x a : ℤ) (j : ℕ) → N a ≤ P a → of x ≼ of (x +ℤ a *ℤ pos j)
up_from x a j h = omega (arith, add_parts x (a *ℤ pos j), mul_P a j, mul_N a j, mul-le-mul_right j h)

down_from : (x a : ℤ) (j : ℕ) → P a ≤ N a → of (x +ℤ a *ℤ pos j) ≼ of x
down_from x a j h = omega (arith, add_parts x (a *ℤ pos j), mul_P a j, mul_N a j, mul-le-mul_right j h)

module _ (test : ℤ → Bool) (a e : ℤ) (s : Range) (lone : s.lo ≡ s.hi) where
  rise : ((x : ℤ) → T (test x) → of x ≼ of e) → N a ≤ P a → (form : Form) (n : ℕ) → Stepped test (λ y. y +ℤ a) (begins form) s.lo n
      → (j : ℕ) → j < n → Inside (inside_range (is_do form) rising s e) (s.lo +ℤ a *ℤ pos j)
  unfolding inside_range
  rise below up while n st j lt = (up_from s.lo a j up, omega (arith, below _ (seen test a st j lt), max_ge s.lo e))
  rise below up hold n st j lt = (up_from s.lo a j up, omega (arith, below _ (seen test a st j lt), max_ge s.lo e))
  rise below up (for x) n st j lt = (up_from s.lo a j up, omega (arith, below _ (seen test a st j lt), max_ge s.lo e))
  rise below up do_while n st zero lt = (up_from s.lo a 0 up, omega (arith, eq_in (step_off s.lo a), eq_in lone, max_ge s.hi e))
  rise below up do_while n st (suc j) lt = (up_from s.lo a (suc j) up, omega (arith, below _ (seen_do test a st j lt), max_ge s.hi e))

  fall : ((x : ℤ) → T (test x) → of e ≼ of x) → P a ≤ N a → (form : Form) (n : ℕ) → Stepped test (λ y. y +ℤ a) (begins form) s.lo n
      → (j : ℕ) → j < n → Inside (inside_range (is_do form) falling s e) (s.lo +ℤ a *ℤ pos j)
  unfolding inside_range
  fall above down while n st j lt = (omega (arith, above _ (seen test a st j lt), min_le s.hi e), omega (arith, eq_in lone, down_from s.lo a j down))
  fall above down hold n st j lt = (omega (arith, above _ (seen test a st j lt), min_le s.hi e), omega (arith, eq_in lone, down_from s.lo a j down))
  fall above down (for x) n st j lt = (omega (arith, above _ (seen test a st j lt), min_le s.hi e), omega (arith, eq_in lone, down_from s.lo a j down))
  fall above down do_while n st zero lt = (omega (arith, eq_in (step_off s.lo a), min_le s.lo e), omega (arith, eq_in lone, down_from s.lo a 0 down))
  fall above down do_while n st (suc j) lt = (omega (arith, above _ (seen_do test a st j lt), min_le s.lo e), omega (arith, eq_in lone, down_from s.lo a (suc j) down))

at_limit : (up : Bool) (n : Range) → n.lo ≡ n.hi → Inside n (worst_limit up n)
at_limit true n e = omega (arith, eq_in e)
at_limit false n e = omega (arith, eq_in e)

stepped_as : {test : ℤ → Bool} {p : Place} {k : ℕ} (a b x y : ℤ) → a ≡ b → x ≡ y → Stepped test (λ z. z +ℤ b) p y k → Stepped test (λ z. z +ℤ a) p x k
stepped_as {test} {p} {k} a b x y e f st = subst (λ u. Stepped test (λ z. z +ℤ u) p x k) (sym e) (subst (λ u. Stepped test (λ z. z +ℤ b) p u k) (sym f) st)

values_inside : (form : Form) (c : Comparison) (st : Step) (s r n : Range) (k : ℕ) → T (is_add st) → T (equal_ends st) → s.lo ≡ s.hi → n.lo ≡ n.hi → T (ordered (sort c)) → Fit st (sort c) s r n (edge c n)
    → Stepped (λ x. compares c x (worst_limit (upward c) n)) (worst_move (upward c) st) (begins form) (worst_start (upward c) s) k
    → (j : ℕ) → j < k → Inside (inside_range (is_do form) (sort c) s (edge c n)) (s.lo +ℤ first_end st *ℤ pos j)
unfolding is_add equal_ends Fit first_end
values_inside form Less (Add a b) s r n k ad ev l m o fit st = rise (λ x. compares Less x n.hi) a _ s l (λ x p. passes Less n n.hi x (at_limit true n m) p) (omega arith) form k st
values_inside form AtMost (Add a b) s r n k ad ev l m o fit st = rise (λ x. compares AtMost x n.hi) a _ s l (λ x p. passes AtMost n n.hi x (at_limit true n m) p) (omega arith) form k st
values_inside form Greater (Add a b) s r n k ad ev l m o fit st = fall (λ x. compares Greater x n.lo) a _ s l (λ x p. passes Greater n n.lo x (at_limit false n m) p) (omega (arith, eq_yes a b ev)) form k (stepped_as a b s.lo s.hi (eq_z_true a b (is_true _ ev)) l st)
values_inside form AtLeast (Add a b) s r n k ad ev l m o fit st = fall (λ x. compares AtLeast x n.lo) a _ s l (λ x p. passes AtLeast n n.lo x (at_limit false n m) p) (omega (arith, eq_yes a b ev)) form k (stepped_as a b s.lo s.hi (eq_z_true a b (is_true _ ev)) l st)
values_inside form Equal (Add a b) s r n k ad ev l m o fit st = absurd o
values_inside form Different (Add a b) s r n k ad ev l m o fit st = absurd o
values_inside form c (Grow f g) s r n k ad ev l m o fit st = absurd ad
values_inside form c (Shrink f g) s r n k ad ev l m o fit st = absurd ad
values_inside form c Unknown s r n k ad ev l m o fit st = absurd ad

module _ (i : ℕ) (form : Form) (ρ : Env) (test : Test) (body : Block) where
  -- of a loop that sums
  own_inside : of_trip i (own_trip true form ρ test body) ≡ passed → T (is_add (step test.tested body)) → T (equal_ends (step test.tested body)) → T (single (ρ test.tested))
      → T (single (bounds ρ test.limit)) → T (ordered (sort test.comparison))
      → (j : ℕ) → j < turns_of (own_trip true form ρ test body) → Inside (inner_of (own_trip true form ρ test body)) ((ρ test.tested).lo +ℤ first_end (step test.tested body) *ℤ pos j)
  unfolding inner_of FiguresCounted
  own_inside q ad ev l m o = values_inside form test.comparison (step test.tested body) (ρ test.tested) _ (bounds ρ test.limit) _ ad ev
      (eq_z_true _ _ (is_true _ l)) (eq_z_true _ _ (is_true _ m)) o (loop_fits i _ _ _ _ _ _ _ _ q).0
      (own_turns ρ test body true form _ (figures_counted (own_trip true form ρ test body) i o q))

  sum_inside : of_trip i (trip form ρ test body) ≡ passed → T (sums form ρ test body) → (j : ℕ) → j < turns form ρ test body
      → Inside (inner_of (trip form ρ test body)) ((ρ test.tested).lo +ℤ first_end (step test.tested body) *ℤ pos j)
  unfolding sums
  sum_inside q s j =
      let (w, h₁) = both (is_own (way_of form test body)) _ s in
      let (ex, h₂) = both (is_exact (trip form ρ test body)) _ h₁ in
      let (ad, h₃) = both (is_add (step test.tested body)) _ h₂ in
      let (o, _) = both (ordered (sort test.comparison)) _ h₃ in
      let (ev, one, lim) = exact_terms form ρ test body w ex in
      let e = own_trip_lem form ρ test body w in
      subst (λ τ. j < turns_of τ → Inside (inner_of τ) ((ρ test.tested).lo +ℤ first_end (step test.tested body) *ℤ pos j)) (sym e)
      (λ lt. own_inside (subst (λ τ. of_trip i τ ≡ passed) e q) ad ev one lim o j lt)

  pub first_wide : (r : Round) (k : Pass) → of_trip i (trip form ρ test body) ≡ passed → Wide (in_body r k form ρ test body) (first_pass form ρ test body) (inside form ρ test body)
  unfolding in_body first_pass loop_env
  first_wide r k q = by (sums form ρ test body) (λ t. t)
    where
      by : (b : Bool) → (T b → T (sums form ρ test body))
          → Wide (cond b (record { count = turns form ρ test body; by = first_end (step test.tested body); times = often r }) (alike (total_of r k form ρ test body)))
          (cond b (valued test.tested (ρ test.tested).lo) any) (inside form ρ test body)
      by true f = lie (λ j lt. subst (λ a. Inside a ((ρ test.tested).lo +ℤ first_end (step test.tested body) *ℤ pos j)) (sym (cond_true (eqb test.tested test.tested) _ _ (eqb_refl test.tested))) (sum_inside q (f tt) j lt))
      by false f = tt

-- ---- a total
sum_as : (f : ℕ → ℕ) (c i n : ℕ) → ((j : ℕ) → i ≤ j → j < i + n → f j ≡ c) → sum f i n ≡ n * c
unfolding sum
sum_as f c i zero h = omega arith
sum_as f c i (suc n) h = omega (arith, h i (omega arith) (omega arith), sum_as f c (suc i) n (λ j a b. h j (omega arith) (omega arith)))

total_of_lem : (r : Round) (k : Pass) (form : Form) (ρ : Env) (test : Test) (body : Block)
    → ((j : ℕ) → j < r.count → turns_in (pass_at k r.by j) form ρ test body ≡ turns form ρ test body) → total_of r k form ρ test body ≡ turns form ρ test body * often r
unfolding total_of
total_of_lem r k form ρ test body h =
    ap (λ z. z * r.times) (over_sum k r.by r.count (λ j. turns_in j form ρ test body) ∙ sum_as _ (turns form ρ test body) 0 r.count (λ j _ lt. h j (omega arith)))
    ∙ omega arith

-- not a summed triangle
total_plain : (r : Round) (k : Pass) (form : Form) (ρ : Env) (test : Test) (body : Block) → T (not (is_summed k form test body)) → total_of r k form ρ test body ≡ turns form ρ test body * often r
unfolding turns_in
total_plain r any form ρ test body h = total_of_lem r any form ρ test body (λ j lt. refl)
total_plain r (valued v x) form ρ test body h = total_of_lem r (valued v x) form ρ test body (λ j lt. cond_false (triangle v form test body) _ _ h)

-- a triangle that sums has one value
one_of : (form : Form) (ρ : Env) (test : Test) (body : Block) (v : ℕ) (y : ℤ) → T (sums form ρ test body) → T (triangle v form test body) → (T (single (ρ v)) → Inside (ρ v) y)
    → turns form ρ (with_limit y test) body ≡ turns form ρ test body
unfolding sums triangle
one_of while ρ test body v y s t h = absurd t
one_of do_while ρ test body v y s t h = absurd t
one_of hold ρ test body v y s t h = absurd t
one_of (for o) ρ test body v y s t h =
    let (w, h₁) = both (is_own (way_of (for o) test body)) _ s in
    let (ex, _) = both (is_exact (trip (for o) ρ test body)) _ h₁ in
    let (_, t₁) = both (from_constant (for o)) _ t in
    let (_, t₂) = both (is_own (way_of (for o) test body)) _ t₁ in
    let (_, t₃) = both (is_add (step test.tested body)) _ t₂ in
    let (_, var) = both (upward test.comparison) _ t₃ in
    let e = limit_range v test.limit ρ var in
    one_value o ρ test body y w ex (subst (λ a. Inside a y) (sym e) (h (subst (λ a. T (single a)) e (exact_terms (for o) ρ test body w ex).2)))

round_value : (r : Round) (a : Range) (x : ℤ) → InRound r a x → (j : ℕ) → j < r.count → T (single a) → Inside a (x +ℤ r.by *ℤ pos j)
unfolding lowest highest
round_value r a x (lie f) j lt s = f j lt
round_value r a x (open-ended u v) j lt s = absurd (omega (arith, eq_yes a.lo a.hi s))

total_exact : (r : Round) (k : Pass) (form : Form) (ρ : Env) (test : Test) (body : Block) → Wide r k ρ → T (sums form ρ test body) → total_of r k form ρ test body ≡ turns form ρ test body * often r
unfolding turns_in
total_exact r any form ρ test body h s = total_of_lem r any form ρ test body (λ j lt. refl)
total_exact r (valued v x) form ρ test body h s =
    total_of_lem r (valued v x) form ρ test body (λ j lt. cond_elim (λ n. n ≡ turns form ρ test body) (triangle v form test body) _ _
    (λ t. one_of form ρ test body v _ s t (round_value r (ρ v) x h j lt)) (λ _. refl))

-- so the passes of a loop's body are as many as its total says
pub often_total : (r : Round) (k : Pass) (form : Form) (ρ : Env) (test : Test) (body : Block) → Wide r k ρ → often (in_body r k form ρ test body) ≡ total_of r k form ρ test body
unfolding in_body
often_total r k form ρ test body h =
    cond_elim (λ z. often z ≡ total_of r k form ρ test body) (sums form ρ test body) _ _ (λ s. sym (total_exact r k form ρ test body h s)) (λ _. omega arith)

-- ---- the lines
pub all_append : {A : Type 0} {Q : A → Type 0} {x y : List A} → All Q x → All Q y → All Q (x ++ y)
all_append none k = k
all_append (some h t) k = some h (all_append t k)

-- the passes of a round that is summed are as many times over as the loop next round it says
abbrev Times : ℕ → Round → Pass → Type 0
Times beyond r any = Unit {0}
Times beyond r (valued v x) = r.times ≡ beyond

times_later : (assigned : ℕ → Bool) (beyond : ℕ) (r : Round) (k : Pass) → Times beyond r k → Times beyond r (later assigned k)
unfolding later
times_later assigned beyond r any h = tt
times_later assigned beyond r (valued v x) h = cond_elim (Times beyond r) (assigned v) any (valued v x) (λ _. tt) (λ _. h)

first_times : (r : Round) (k : Pass) (form : Form) (ρ : Env) (test : Test) (body : Block) (over : ℕ) → often r ≡ over → Times over (in_body r k form ρ test body) (first_pass form ρ test body)
unfolding in_body first_pass
first_times r k form ρ test body over e = by (sums form ρ test body)
  where
    by : (b : Bool) → Times over (cond b (record { count = turns form ρ test body; by = first_end (step test.tested body); times = often r }) (alike (total_of r k form ρ test body)))
        (cond b (valued test.tested (ρ test.tested).lo) any)
    by true = e
    by false = tt

-- a summed triangle
total_summed : (r : Round) (k : Pass) (form : Form) (ρ : Env) (test : Test) (body : Block) (beyond : ℕ) → Times beyond r k → T (is_summed k form test body)
    → total_of r k form ρ test body ≡ sum_of_values r k form ρ test body * beyond
unfolding total_of sum_of_values turns_in
total_summed r any form ρ test body beyond h s = absurd s
total_summed r (valued v x) form ρ test body beyond h s =
    ap (λ z. z * r.times) (over_sum (valued v x) r.by r.count (λ j. turns_in j form ρ test body)
    ∙ ap (λ f. sum f 0 r.count) (fun_ext (λ i. cond_true (triangle v form test body) (turns form ρ (with_limit (x +ℤ r.by *ℤ pos i) test) body) (turns form ρ test body) s)))
    ∙ ap (λ z. sum (λ i. turns form ρ (with_limit (x +ℤ r.by *ℤ pos i) test) body) 0 r.count * z) h

-- what is said of a placed line
record Figured (p : Placed) : Type 0 where
  plainly : T (not p.summed) → p.line.total ≡ p.line.turns * p.over
  triangular : T p.summed → p.line.total ≡ p.values * p.beyond

totals : (b : Block) (over beyond : ℕ) (r : Round) (k : Pass) (ρ : Env) → loops_verdict ρ b ≡ passed → Wide r k ρ → often r ≡ over → Times beyond r k → All Figured (placed over beyond r k ρ b)
unfolding loops_verdict placed
totals done over beyond r k ρ q h e t = none
totals (plain i p rest) over beyond r k ρ q h e t =
    totals rest over beyond r _ (after_row ρ p) q (wide_later (λ w. sets w p) r k ρ (after_row ρ p) (λ v n. wider_same _ _ (row_kept p ρ v n)) h) e (times_later (λ w. sets w p) beyond r k t)
totals (pick i x a b rest) over beyond r k ρ q h e t =
    let (qa, q₁) = then_yes (loops_verdict ρ a) _ q in
    let (qb, q₂) = then_yes (loops_verdict ρ b) _ q₁ in
    all_append (totals a over beyond _ any ρ qa tt (omega arith) tt) (all_append (totals b over beyond _ any ρ qb tt (omega arith) tt)
    (totals rest over beyond r _ (join (after ρ a) (after ρ b)) q₂
    (wide_later (λ w. assigns w a || assigns w b) r k ρ (join (after ρ a) (after ρ b)) (λ v n. wider_join (after ρ a) (after ρ b) v (kept_range a ρ qa v (nor (assigns v a) (assigns v b) n).0)) h)
    e (times_later (λ w. assigns w a || assigns w b) beyond r k t)))
totals (loop i x form test body rest) over beyond r k ρ q h e t =
    let σ = at_start form test ρ in
    let (q₀, q₁) = then_yes _ _ q in
    let (qb, q₂) = then_yes (loops_verdict (inside form σ test body) body) _ q₁ in
    let j = start_pass form test k in
    let w = wide_later (λ w. starts w form test) r k ρ σ (λ v n. wider_same _ _ (start_kept form test ρ v n)) h in
    some (record {
      plainly = λ n. total_plain r j form σ test body n ∙ ap (λ z. turns form σ test body * z) e;
      triangular = λ n. total_summed r j form σ test body beyond (times_later (λ w. starts w form test) beyond r k t) n;
    })
    (all_append (totals body _ over (in_body r j form σ test body) (first_pass form σ test body) (inside form σ test body) qb (first_wide i form σ test body r j q₀) (often_total r j form σ test body w)
    (first_times r j form σ test body over e))
    (totals rest over beyond r _ (outside form σ test body) q₂
    (wide_later (λ w. starts w form test || assigns w body) r k ρ (outside form σ test body)
    (λ v n. let (a, b) = nor (starts v form test) (assigns v body) n in wider_then (wider_same (ρ v) (σ v) (start_kept form test ρ v a)) (loop_wider i form σ test body q₀ v b)) h)
    e (times_later (λ w. starts w form test || assigns w body) beyond r k t)))

script_totals : (prices : List ℕ) (scratch : ℕ) (file : List ℕ) (script : Script) → judged prices scratch file ≡ accepted script → All Figured (script_placed script)
unfolding verdict
script_totals prices scratch file script e =
    let ok = (file_accepted prices scratch file script e).script_accepted in
    let (passes, _) = then_yes (loops_verdict (start_env script.ranges) (tree_of script.rows)) _ ok.loops in
    totals (tree_of script.rows) 1 1 (alike 1) any (start_env script.ranges) passes tt refl tt

all_as : {Q R : Placed → Type 0} {ps : List Placed} → ((p : Placed) → Q p → R p) → All Q ps → All R ps
all_as f none = none
all_as f (some h t) = some (f _ h) (all_as f t)

pub totals_multiply : TotalsMultiply
unfolding TotalsMultiply
totals_multiply prices scratch file script e = all_as (λ p f. f.plainly) (script_totals prices scratch file script e)

pub triangles_sum : TrianglesSum
unfolding TrianglesSum
triangles_sum prices scratch file script e = all_as (λ p f. f.triangular) (script_totals prices scratch file script e)

-- and they are the report's
lines_append : (x y : List Placed) → lines_in (x ++ y) ≡ lines_in x ++ lines_in y
unfolding lines_in
lines_append [] y = refl
lines_append (p ∷ x) y = ap (λ l. p.line ∷ l) (lines_append x y)

placed_lines : (b : Block) (over beyond : ℕ) (r : Round) (k : Pass) (ρ : Env) → lines_in (placed over beyond r k ρ b) ≡ lines r k ρ b
unfolding placed lines lines_in
placed_lines done over beyond r k ρ = refl
placed_lines (plain i p rest) over beyond r k ρ = placed_lines rest over beyond r _ (after_row ρ p)
placed_lines (pick i e a b rest) over beyond r k ρ = simp (lines_append, placed_lines a, placed_lines b, placed_lines rest)
placed_lines (loop i e form test body rest) over beyond r k ρ = simp (lines_append, placed_lines body, placed_lines rest)

pub lines_placed : LinesPlaced
unfolding LinesPlaced
lines_placed script = placed_lines (tree_of script.rows) 1 1 (alike 1) any (start_env script.ranges)
