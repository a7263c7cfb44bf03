-- A variable that is known in a pass, where its range is a single number, is that number: so a triangle's turns in a pass are at most its turns, if it sums.
use mathlib.Core.Path.{◌≡◌, refl, sym, ap, subst, ◌∙◌}
use mathlib.Core.Bool.{Bool, true, false, not, cond, ◌||◌, false≢true}
use mathlib.Core.Logic.{◌⊎◌, inl, inr}
use Prim.Native.Nat.{ℕ, zero, suc, ◌≤◌, ◌<◌}
use native.Mathlib.Omega.{arith}
use lib.Dec.{T, eqb, eqb→eq, eqb_refl}
use lib.IntN.{ℤ, pos, neg_ℤ, ◌+ℤ◌, ◌*ℤ◌}
use Rattle.ints.specs.Ints.{min_z, max_z}
use Rattle.ints.proofs.Parts.{P, N, ints, add_parts, neg_parts, min_parts, max_parts, eq_out}
use Rattle.ints.proofs.Scale.{mul_P, mul_N}
use Rattle.ints.proofs.Diffs.{of, nat, ◌≼◌, eq_yes, cond_elim, cond_false, both, nor}
use Rattle.rules_steps.specs.declared.Step.{Step}
use Rattle.rules_steps.specs.declared.Step.TheVariants.{Add, Grow, Shrink, Unknown}
use Rattle.rules.specs.Verdicts.{Verdict}
use Rattle.rules.specs.Verdicts.{passed, refused}
use Rattle.rules.specs.Values.{lowest, highest, upward}
use Rattle.rules.specs.Blocks.{Plain, assign, cue, Test, Form, while, do_while, hold, for, Block, done, plain, pick, loop}
use Rattle.rules_steps.specs.Joins.{still, then, either}
use Rattle.rules.specs.Steps.{sets, starts, assigns, step_from, step, moving, is_add, first_end}
use Rattle.rules.specs.Ranges.{Range, Env, full, single, bounds, source_range, after_row, join, at_start, edge, Sort, rising, falling, same, differ, ordered, sort, is_do, inside_range, suits}
use Rattle.rules.specs.Turns.{while_turns, moved, at_test}
use Rattle.rules.specs.Trips.{Way, own, broken, copied, chase, watched, is_own, way_of, untested, nothing, Trip, trip_by, trip, turns_of, turns, led, is_exact, inner_of, outer_of, loop_env, inside, outside, after}
use Rattle.rules.specs.Questions.{and_then, asked, known, loop_verdict, of_trip, loops_verdict}
use Rattle.rules.specs.Passes.{Pass, any, valued, later, pass_at, sums, first_pass, from_constant, triangle, turns_in}
use Rattle.rules.specs.Figures as figures
use Rattle.rules.specs.Figures.{alike, often, total_of, in_body}
use Rattle.rules.proofs.Climb.{climb_has}
use Rattle.rules.proofs.Triangles.{own_trip_lem, exact_terms, limit_range, one_value}
use Rattle.analysis_steps.proofs.Stepping.{row_still}

-- ---- questions that passed
pub then_first : (v w : Verdict) → and_then v w ≡ passed → v ≡ passed
unfolding and_then
then_first passed w h = refl
then_first (refused n p) w h = h

pub then_second : (v w : Verdict) → and_then v w ≡ passed → w ≡ passed
unfolding and_then
then_second passed w h = h
then_second (refused n p) w h = absurd (let z : ◌≡◌ {A = ℕ} 0 1 = cc in omega arith)

asked_yes : (n p : ℕ) (b : Bool) (v : Verdict) → asked n p b v ≡ passed → (b ≡ true) × (v ≡ passed)
unfolding asked
asked_yes n p true v h = (refl, h)
asked_yes n p false v h = absurd (let z : ◌≡◌ {A = ℕ} 0 1 = cc in omega arith)

passed_moves : (i : ℕ) (τ : Trip) → of_trip i τ ≡ passed → moving τ.step ≡ true
unfolding loop_verdict
passed_moves i τ h = (asked_yes 9 i (moving τ.step) _ (asked_yes 8 i (known τ.step) _ (asked_yes 19 i τ.terms _ h).1).1).0

passed_suits : (i : ℕ) (τ : Trip) → of_trip i τ ≡ passed → suits τ.step (sort τ.comparison) ≡ true
unfolding loop_verdict
passed_suits i τ h = (asked_yes 11 i (suits τ.step (sort τ.comparison)) _ (asked_yes 10 i τ.keeps _ (asked_yes 9 i (moving τ.step) _ (asked_yes 8 i (known τ.step) _ (asked_yes 19 i τ.terms _ h).1).1).1).1).0

no_T : (b : Bool) → T (not b) → b ≡ false
no_T true h = absurd h
no_T false h = refl

is_T : (b : Bool) → T b → b ≡ true
is_T true h = refl
is_T false h = absurd h

-- ---- a range with numbers on both sides of 0
pub record WideInterval (r : Range) : Type 0 where
  pub low : P r.lo < N r.lo
  pub high : N r.hi < P r.hi

full_wide : WideInterval full
unfolding lowest highest
full_wide = record { low = omega arith; high = omega arith }

-- the range of v stays as it was, or is wide
abbrev pub Kept : Env → Env → ℕ → Type 0
Kept ρ σ v = (σ v ≡ ρ v) ⊎ WideInterval (σ v)

kept_then : (ρ σ υ : Env) (v : ℕ) → Kept ρ σ v → Kept σ υ v → Kept ρ υ v
kept_then ρ σ υ v (inl p) (inl q) = inl (q ∙ p)
kept_then ρ σ υ v (inr w) (inl q) = inr (subst WideInterval (sym q) w)
kept_then ρ σ υ v h (inr w) = inr w

join_wide : (ρ σ : Env) (v : ℕ) → (WideInterval (ρ v) ⊎ WideInterval (σ v)) → WideInterval (join ρ σ v)
unfolding join
join_wide ρ σ v (inl w) = record { low = omega (arith, w.low, min_parts (ρ v).lo (σ v).lo); high = omega (arith, w.high, max_parts (ρ v).hi (σ v).hi) }
join_wide ρ σ v (inr w) = record { low = omega (arith, w.low, min_parts (ρ v).lo (σ v).lo); high = omega (arith, w.high, max_parts (ρ v).hi (σ v).hi) }

join_same : (ρ σ υ : Env) (v : ℕ) → σ v ≡ ρ v → υ v ≡ ρ v → join σ υ v ≡ ρ v
unfolding join
join_same ρ σ υ v p q =
    (λ j. record { lo = min_z (p j).lo (q j).lo; hi = max_z (p j).hi (q j).hi })
    ∙ (λ j. record { lo = eq_out (min_z (ρ v).lo (ρ v).lo) (ρ v).lo (omega (arith, min_parts (ρ v).lo (ρ v).lo)) j; hi = eq_out (max_z (ρ v).hi (ρ v).hi) (ρ v).hi (omega (arith, max_parts (ρ v).hi (ρ v).hi)) j })

pub join_kept : (ρ σ υ : Env) (v : ℕ) → Kept ρ σ v → Kept ρ υ v → Kept ρ (join σ υ) v
join_kept ρ σ υ v (inl p) (inl q) = inl (join_same ρ σ υ v p q)
join_kept ρ σ υ v (inr w) h = inr (join_wide σ υ v (inl w))
join_kept ρ σ υ v (inl p) (inr w) = inr (join_wide σ υ v (inr w))

pub row_kept : (ρ : Env) (p : Plain) (v : ℕ) → T (not (sets v p)) → Kept ρ (after_row ρ p) v
unfolding after_row sets
row_kept ρ (assign w x) v h = inl (cond_false (eqb v w) (source_range x (ρ w) ρ) (ρ v) h)
row_kept ρ (cue n) v h = inl refl

start_same : (form : Form) (test : Test) (ρ : Env) (v : ℕ) → T (not (starts v form test)) → at_start form test ρ v ≡ ρ v
unfolding at_start
start_same while test ρ v h = refl
start_same do_while test ρ v h = refl
start_same hold test ρ v h = refl
start_same (for x) test ρ v h = cond_false (eqb v test.tested) (bounds ρ x) (ρ v) h

pub start_kept : (form : Form) (test : Test) (ρ : Env) (v : ℕ) → T (not (starts v form test)) → Kept ρ (at_start form test ρ) v
start_kept form test ρ v h = inl (start_same form test ρ v h)

-- a variable that is not assigned stands
either_still : either still still ≡ still
unfolding either min_z max_z
either_still = refl

stands_still : (v : ℕ) (b : Block) → T (not (assigns v b)) → step v b ≡ still
unfolding step_from assigns then either
stands_still v done h = refl
stands_still v (plain i p rest) h =
    let (a, c) = nor (sets v p) (assigns v rest) h in
    ap (λ s. step_from (then still s) v rest) (row_still v p (no_T (sets v p) a)) ∙ stands_still v rest c
stands_still v (pick i e a b rest) h =
    let (xy, z) = nor (assigns v a || assigns v b) (assigns v rest) h in
    let (x, y) = nor (assigns v a) (assigns v b) xy in
    (λ j. step_from (then still (either (stands_still v a x j) (stands_still v b y j))) v rest) ∙ ap (λ s. step_from (then still s) v rest) either_still ∙ stands_still v rest z
stands_still v (loop i e form test body rest) h =
    let (xy, z) = nor (starts v form test || assigns v body) (assigns v rest) h in
    let (x, y) = nor (starts v form test) (assigns v body) xy in
    (λ j. step_from (then still (cond (no_T (starts v form test) x j || no_T (assigns v body) y j) Unknown still)) v rest) ∙ stands_still v rest z

free_wide : (form : Form) (test : Test) (body : Block) (σ : Env) (w : Way) → moving (trip_by w form σ test body).step ≡ true → step test.tested body ≡ still → WideInterval (outer_of (trip_by w form σ test body))
unfolding trip_by outer_of moving
free_wide form test body σ own m e = absurd (false≢true (sym (ap moving e) ∙ m))
free_wide form test body σ (copied w ahead) m e = full_wide
free_wide form test body σ (chase w) m e = full_wide
free_wide form test body σ (watched w c k ahead) m e = full_wide
free_wide form test body σ broken m e = absurd (false≢true (sym (ap moving e) ∙ m))

pub loop_kept : (i : ℕ) (form : Form) (test : Test) (body : Block) (ρ : Env) (v : ℕ) → T (not (starts v form test)) → T (not (assigns v body))
    → of_trip i (trip form (at_start form test ρ) test body) ≡ passed → Kept ρ (outside form (at_start form test ρ) test body) v
unfolding loop_env
loop_kept i form test body ρ v st un h =
    let σ = at_start form test ρ in
    cond_elim (λ (x : Range). (x ≡ ρ v) ⊎ WideInterval x) (eqb v test.tested) (outer_of (trip form σ test body)) (cond (assigns v body) full (σ v))
    (λ e. inr (free_wide form test body σ (way_of form test body) (passed_moves i (trip form σ test body) h) (stands_still test.tested body (subst (λ w. T (not (assigns w body))) (eqb→eq v test.tested e) un))))
    (λ _. inl (ap (λ b. cond b full (σ v)) (no_T (assigns v body) un) ∙ start_same form test ρ v st))

pub after_kept : (b : Block) (ρ : Env) (v : ℕ) → T (not (assigns v b)) → loops_verdict ρ b ≡ passed → Kept ρ (after ρ b) v
unfolding after assigns loops_verdict
after_kept done ρ v h g = inl refl
after_kept (plain i p rest) ρ v h g =
    let (a, c) = nor (sets v p) (assigns v rest) h in
    kept_then ρ (after_row ρ p) (after (after_row ρ p) rest) v (row_kept ρ p v a) (after_kept rest (after_row ρ p) v c g)
after_kept (pick i e a b rest) ρ v h g =
    let (xy, z) = nor (assigns v a || assigns v b) (assigns v rest) h in
    let (x, y) = nor (assigns v a) (assigns v b) xy in
    let g₁ = then_second (loops_verdict ρ a) _ g in
    kept_then ρ (join (after ρ a) (after ρ b)) (after (join (after ρ a) (after ρ b)) rest) v (join_kept ρ (after ρ a) (after ρ b) v (after_kept a ρ v x (then_first (loops_verdict ρ a) _ g)) (after_kept b ρ v y (then_first (loops_verdict ρ b) _ g₁)))
    (after_kept rest (join (after ρ a) (after ρ b)) v z (then_second (loops_verdict ρ b) _ g₁))
after_kept (loop i e form test body rest) ρ v h g =
    let (xy, z) = nor (starts v form test || assigns v body) (assigns v rest) h in
    let (x, y) = nor (starts v form test) (assigns v body) xy in
    let σ = at_start form test ρ in
    let g₁ = then_second (of_trip i (trip form σ test body)) _ g in
    kept_then ρ (outside form σ test body) (after (outside form σ test body) rest) v (loop_kept i form test body ρ v x y (then_first (of_trip i (trip form σ test body)) _ g)) (after_kept rest (outside form σ test body) v z (then_second (loops_verdict (inside form σ test body) body) _ g₁))

-- ---- n passes, a in each, from k: what is known is the range, where that is one number
abbrev pub Lone : Pass → ℤ → ℕ → Env → Type 0
Lone any a n ρ = Unit {0}
Lone (valued v x) a n ρ = T (single (ρ v)) → (i : ℕ) → i < n → x +ℤ a *ℤ pos i ≡ (ρ v).lo

-- after a part
pub lone_later : (f : ℕ → Bool) (k : Pass) (a : ℤ) (n : ℕ) (ρ σ : Env) → ((v : ℕ) → T (not (f v)) → Kept ρ σ v) → Lone k a n ρ → Lone (later f k) a n σ
unfolding later
lone_later f any a n ρ σ h l = tt
lone_later f (valued v x) a n ρ σ h l = by (f v) (h v)
  where
    go : (σ v ≡ ρ v) ⊎ WideInterval (σ v) → T (single (σ v)) → (i : ℕ) → i < n → x +ℤ a *ℤ pos i ≡ (σ v).lo
    go (inl e) s i u = l (subst (λ r. T (single r)) e s) i u ∙ sym (ap (λ (r : Range). r.lo) e)
    go (inr w) s i u = absurd (omega (arith, w.low, w.high, eq_yes (σ v).lo (σ v).hi s))

    by : (b : Bool) → (T (not b) → (σ v ≡ ρ v) ⊎ WideInterval (σ v)) → Lone (cond b any (valued v x)) a n σ
    by true g = tt
    by false g = go (g tt)

-- ---- at the start of a body that sums
-- a second pass moves the range's other end
not_second : (i : ℕ) → (0 < i → ⊥) → i ≡ 0
not_second zero h = refl
not_second (suc i) h = absurd (h (omega arith))

module _ (s n : Range) (e : ℤ) (one : T (single s)) where
  first_up : (is-moved : Bool) (a b : ℤ) → suits (Add a b) rising ≡ true → T (single (inside_range is-moved rising s e)) → (i : ℕ) → i < led (cond is-moved untested nothing) rising e (while_turns (Add a b) rising (at_test is-moved (Add a b) s) n e) → i ≡ 0
  unfolding suits inside_range led while_turns at_test moved
  first_up false a b up lone i h =
      not_second i (λ l. let r : nat 1 ≼ of a = omega ints in
      omega (arith, climb_has (record { start = s.lo; limit = e; step = a }) 1 r (omega arith), max_parts s.lo e, eq_yes s.lo (max_z s.lo e) lone))
  first_up true a b up lone i h =
      not_second i (λ l. let r : nat 1 ≼ of a = omega ints in
      omega (arith, climb_has (record { start = s.lo +ℤ a; limit = e; step = a }) 0 r (omega arith), add_parts s.lo a, max_parts s.hi e, eq_yes s.lo (max_z s.hi e) lone, eq_yes s.lo s.hi one))

  first_down : (is-moved : Bool) (a b : ℤ) → suits (Add a b) falling ≡ true → T (single (inside_range is-moved falling s e)) → (i : ℕ) → i < led (cond is-moved untested nothing) falling e (while_turns (Add a b) falling (at_test is-moved (Add a b) s) n e) → i ≡ 0
  unfolding suits inside_range led while_turns at_test moved
  first_down false a b up lone i h =
      not_second i (λ l. let r : nat 1 ≼ of (neg_ℤ b) = omega (ints, neg_parts b) in
      omega (arith, climb_has (record { start = e; limit = s.hi; step = neg_ℤ b }) 1 r (omega arith), min_parts s.hi e, eq_yes (min_z s.hi e) s.hi lone))
  first_down true a b up lone i h =
      not_second i (λ l. let r : nat 1 ≼ of (neg_ℤ b) = omega (ints, neg_parts b) in
      omega (arith, r, neg_parts b, climb_has (record { start = e; limit = s.hi +ℤ b; step = neg_ℤ b }) 0 r (omega arith), add_parts s.hi b, min_parts s.lo e, eq_yes (min_z s.lo e) s.hi lone, eq_yes s.lo s.hi one))

  -- the first value is the range's
  low_up : (is-moved : Bool) → (inside_range is-moved rising s e).lo ≡ s.lo
  unfolding inside_range
  low_up is-moved = refl

  low_down : (is-moved : Bool) → T (single (inside_range is-moved falling s e)) → (inside_range is-moved falling s e).lo ≡ s.lo
  unfolding inside_range
  low_down is-moved lone = eq_out _ s.lo (omega (arith, eq_yes (inside_range is-moved falling s e).lo s.hi lone, eq_yes s.lo s.hi one))

  lone_range : (is-moved : Bool) (st : Step) (d : Sort) → T (is_add st) → T (ordered d) → suits st d ≡ true → T (single (inside_range is-moved d s e)) → (i : ℕ)
      → i < led (cond is-moved untested nothing) d e (while_turns st d (at_test is-moved st s) n e) → s.lo +ℤ first_end st *ℤ pos i ≡ (inside_range is-moved d s e).lo
  unfolding is_add
  lone_range is-moved (Add a b) rising ad o u lone i h = at_first (first_up is-moved a b u lone i h) ∙ sym (low_up is-moved)
    where
      at_first : i ≡ 0 → s.lo +ℤ first_end (Add a b) *ℤ pos i ≡ s.lo
      at_first z = let k = first_end (Add a b) in rw z (eq_out (s.lo +ℤ k *ℤ pos 0) s.lo (omega (arith, add_parts s.lo (k *ℤ pos 0), mul_P k 0, mul_N k 0)))
  lone_range is-moved (Add a b) falling ad o u lone i h = at_first (first_down is-moved a b u lone i h) ∙ sym (low_down is-moved lone)
    where
      at_first : i ≡ 0 → s.lo +ℤ first_end (Add a b) *ℤ pos i ≡ s.lo
      at_first z = let k = first_end (Add a b) in rw z (eq_out (s.lo +ℤ k *ℤ pos 0) s.lo (omega (arith, add_parts s.lo (k *ℤ pos 0), mul_P k 0, mul_N k 0)))
  lone_range is-moved (Add a b) same ad o u lone i h = absurd o
  lone_range is-moved (Add a b) differ ad o u lone i h = absurd o
  lone_range is-moved (Grow f g) d ad o u lone i h = absurd ad
  lone_range is-moved (Shrink f g) d ad o u lone i h = absurd ad
  lone_range is-moved Unknown d ad o u lone i h = absurd ad

module _ (form : Form) (ρ : Env) (test : Test) (body : Block) where
  tested_inside : inside form ρ test body test.tested ≡ inner_of (trip form ρ test body)
  unfolding loop_env
  tested_inside = ap (λ b. cond b (inner_of (trip form ρ test body)) (cond (assigns test.tested body) full (ρ test.tested))) (is_T (eqb test.tested test.tested) (eqb_refl test.tested))

  values_lone : (i : ℕ) → of_trip i (trip form ρ test body) ≡ passed → T (sums form ρ test body)
      → Lone (valued test.tested (ρ test.tested).lo) (first_end (step test.tested body)) (turns form ρ test body) (inside form ρ test body)
  unfolding sums inner_of turns_of
  values_lone i p h lone m l =
      let (o, h₁) = both (is_own (way_of form test body)) _ h in
      let (ex, h₂) = both (is_exact (trip form ρ test body)) _ h₁ in
      let (ad, h₃) = both (is_add (step test.tested body)) _ h₂ in
      let (od, _) = both (ordered (sort test.comparison)) _ h₃ in
      let e = own_trip_lem form ρ test body o in
      let z = tested_inside ∙ ap inner_of e in
      lone_range (ρ test.tested) (bounds ρ test.limit) (edge test.comparison (bounds ρ test.limit)) (exact_terms form ρ test body o ex).1 (is_do form) (step test.tested body) (sort test.comparison) ad od
      (subst (λ (τ : Trip). suits τ.step (sort τ.comparison) ≡ true) e (passed_suits i (trip form ρ test body) p)) (subst (λ r. T (single r)) z lone) m (subst (λ (τ : Trip). m < turns_of τ) e l)
      ∙ sym (ap (λ (r : Range). r.lo) z)

  pub first_lone : (i : ℕ) → of_trip i (trip form ρ test body) ≡ passed → (r : figures.Round) (κ : Pass)
      → Lone (first_pass form ρ test body) (in_body r κ form ρ test body).by (in_body r κ form ρ test body).count (inside form ρ test body)
  unfolding first_pass in_body
  first_lone i p r κ = by (sums form ρ test body) (values_lone i p)
    where
      by : (b : Bool) → (T b → Lone (valued test.tested (ρ test.tested).lo) (first_end (step test.tested body)) (turns form ρ test body) (inside form ρ test body))
          → Lone (cond b (valued test.tested (ρ test.tested).lo) any)
          (cond b (record { count = turns form ρ test body; by = first_end (step test.tested body); times = often r }) (alike (total_of r κ form ρ test body))).by
          (cond b (record { count = turns form ρ test body; by = first_end (step test.tested body); times = often r }) (alike (total_of r κ form ρ test body))).count (inside form ρ test body)
      by true f = f tt
      by false f = tt

-- ---- a loop that sums has its turns in each pass
pub turns_lone : (k : Pass) (a : ℤ) (n : ℕ) (form : Form) (ρ : Env) (test : Test) (body : Block) → Lone k a n ρ → T (sums form ρ test body) → (i : ℕ) → i < n → turns_in (pass_at k a i) form ρ test body ≤ turns form ρ test body
unfolding sums turns_in triangle
turns_lone any a n form ρ test body l h i u = omega arith
turns_lone (valued v x) a n while ρ test body l h i u = omega arith
turns_lone (valued v x) a n do_while ρ test body l h i u = omega arith
turns_lone (valued v x) a n hold ρ test body l h i u = omega arith
turns_lone (valued v x) a n (for o) ρ test body l h i u =
    cond_elim (λ m. m ≤ turns (for o) ρ test body) (triangle v (for o) test body) _ _
    (λ t.
    let (o₁, h₁) = both (is_own (way_of (for o) test body)) _ h in
    let (ex, _) = both (is_exact (trip (for o) ρ test body)) _ h₁ in
    let (_, t₁) = both (from_constant (for o)) _ t in
    let (_, t₂) = both (is_own (way_of (for o) test body)) _ t₁ in
    let (_, t₃) = both (is_add (step test.tested body)) _ t₂ in
    let (_, alone) = both (upward test.comparison) _ t₃ in
    let r = limit_range v test.limit ρ alone in
    let one = subst (λ r. T (single r)) r (exact_terms (for o) ρ test body o₁ ex).2 in
    let e = l one i u in
    omega (arith, one_value o ρ test body (x +ℤ a *ℤ pos i) o₁ ex (subst (λ r. (of r.lo ≼ of (x +ℤ a *ℤ pos i)) × (of (x +ℤ a *ℤ pos i) ≼ of r.hi)) (sym r) (omega (ints, e), omega (ints, e, eq_yes (ρ v).lo (ρ v).hi one)))))
    (λ _. omega arith)
