-- Demand 2 from the loop itself: what its trip counts are the turns of its worst entry, stepped from its form, test and body.
use mathlib.Core.Path.{◌≡◌, refl, sym, ◌∙◌, ap, subst}
use mathlib.Core.Bool.{Bool, true, false, not, cond, ◌&&◌}
use mathlib.Core.List.{List, ◌++◌}
use Prim.Native.Nat.{ℕ, suc}
use lib.Dec.{T, T_not, eqb}
use lib.IntN.{ℤ, pos, ◌+ℤ◌, ◌-ℤ◌}
use lib.Signed.{le_z, lt_z}
use Rattle.ints.proofs.Parts.{add_parts, minus_parts, bool_case, ints}
use Rattle.ints.proofs.Diffs.{cond_elim, both}
use Rattle.rules.specs.declared.Comparison.{Comparison}
use Rattle.rules.specs.declared.Comparison.TheVariants.{Less, AtMost, Greater, AtLeast, Equal, Different}
use Rattle.rules_steps.specs.declared.Step.{Step}
use Rattle.rules_steps.specs.declared.Step.TheVariants.{Add, Grow, Shrink, Unknown}
use Rattle.rules.specs.Expressions.{Expr, constant, variable, group, apply}
use Rattle.rules.specs.Values.{compares, upward, opposite}
use Rattle.rules.specs.Blocks.{Test, Form, Block, done, plain, pick, loop, while, do_while, hold, for, from, changed, off}
use Rattle.rules.specs.Steps.{step, difference, assigns, is_add, moving, Sole, other, sole, sole_of}
use Rattle.rules.specs.Ranges.{Range, Env, after_row, join, at_start, ordered, sort, Sort, rising, falling, same, differ}
use Rattle.rules.specs.Trips.{Way, own, broken, copied, chase, watched, way_of, limit_way, sole_way, chases, copies, hold_way, toward, is_zero, trip_by, own_trip, copy_trip, chase_trip, hold_trip, turns_of, inside, outside, after}
use Rattle.rules.specs.Passes.{Pass, any, start_pass, first_pass}
use Rattle.rules.specs.Figures.{Round, alike, often, in_body, lines}
use Rattle.rules.specs.Questions.{passed, loops_verdict, verdict, of_trip}
use Rattle.rules.specs.Scripts.{Pairwise, no_more, and_then, start_env, tree_of}
use Rattle.rules.specs.Count.{Counted, stop, turn, CountedAfter, CountedTrip, FiguresCounted, worst_move, worst_start, worst_limit}
use Rattle.rules.specs.Stepping
use Rattle.rules.specs.Stepping.{Place, at_a_test, at_body, Stepped, leaves, enters, takes, Two, Flagged, OwnTurns, CopiedTurns, ChasedTurns, HeldTurns, TurnsBy, loops_in, SteppedLine, LinesStepped, SteppedOnce}
use Rattle.rules.proofs.Links.{Fit}
use Rattle.rules.proofs.Accepted.{then_yes, loop_fits}
use Rattle.rules.proofs.FiguresCounted.{figures_counted}
use Rattle.rules.proofs.Demand3File.{file_accepted}

-- what is counted is stepped: R between the counter and the loop's variables holds before each test, and the tests agree where it holds
steps : {S : Type 0} {test : ℤ → Bool} {move : ℤ → ℤ} {test' : S → Bool} {move' : S → S} (R : ℤ → S → Type 0)
    → ((x : ℤ) (s : S) → R x s → test x ≡ test' s) → ((x : ℤ) (s : S) → R x s → T (test x) → R (move x) (move' s))
    → {x : ℤ} {s : S} {n : ℕ} → R x s → Counted test move x n → Stepped test' move' at_a_test s n
steps R agree on {x} {s} r (stop h) = leaves (subst (λ b. T (not b)) (agree x s r) h)
steps R agree on {x} {s} r (turn h c) = enters (subst T (agree x s r) h) (takes (steps R agree on (on x s r h) c))

-- ---- base kinds
same_steps : {test : ℤ → Bool} {move : ℤ → ℤ} {x : ℤ} {n : ℕ} → Counted test move x n → Stepped test move at_a_test x n
same_steps {test} {move} = steps ◌≡◌ (λ x y e. ap test e) (λ x y e h. ap move e) refl

module _ (ρ : Env) (test : Test) (body : Block) where
  pub own_turns : (terms : Bool) (form : Form) (n : ℕ) → CountedTrip (own_trip terms form ρ test body) n → OwnTurns form ρ test body n
  own_turns terms while n c = same_steps c
  own_turns terms do_while n (m, e, c) = rw e (takes (same_steps c))
  own_turns terms hold n c = same_steps c
  own_turns terms (for x) n c = same_steps c

-- ---- change 1: the tested variable holds a copy of what w held, moved if `ahead`
module _ (test : ℤ → Bool) (move : ℤ → ℤ) where
  copy_steps : (ahead : Bool) (v w : ℤ) {n : ℕ} → Counted test move (cond ahead (move w) w) n
      → Stepped (λ (s : Two). test s.tested) (λ s. record { tested = cond ahead (move s.second) s.second; second = move s.second }) at_body (record { tested = v; second = w }) (suc n)
  copy_steps true v w c = takes (steps (λ x s. (x ≡ s.tested) × (x ≡ s.second)) (λ x s r. ap test r.0) (λ x s r h. (ap move r.1, ap move r.1)) (refl, refl) c)
  copy_steps false v w c = takes (steps (λ x s. (x ≡ s.tested) × (move x ≡ s.second)) (λ x s r. ap test r.0) (λ x s r h. (r.1, ap move r.1)) (refl, refl) c)

module _ (ρ : Env) (test : Test) (body : Block) (w : ℕ) (ahead : Bool) where
  copied_after : {t : ℤ → Bool} {move : ℤ → ℤ} (v w : ℤ) {n : ℕ} → CountedAfter t move v (cond ahead (move w) w) n
      → Stepped (λ (s : Two). t s.tested) (λ s. record { tested = cond ahead (move s.second) s.second; second = move s.second }) at_a_test (record { tested = v; second = w }) n
  copied_after v w (CountedAfter.fails h) = leaves h
  copied_after {t} {move} v w (CountedAfter.passes h c) = enters h (copy_steps t move ahead v w c)

  copied_turns : (form : Form) (n : ℕ) → CountedTrip (copy_trip form ρ test body w ahead) n → CopiedTurns form ρ test body w ahead n
  copied_turns while n c = copied_after _ _ c
  copied_turns do_while n (m, e, c) = rw e (copy_steps _ _ ahead _ _ c)
  copied_turns hold n c = copied_after _ _ c
  copied_turns (for x) n c = copied_after _ _ c

-- ---- change 5: the difference
compares_apart : (c : Comparison) (x y : ℤ) → T (ordered (sort c)) → compares c (x -ℤ y) (pos 0) ≡ compares c x y
unfolding compares
compares_apart Less x y o = bool_case _ _ (omega (ints, minus_parts x y)) (omega (ints, minus_parts x y))
compares_apart AtMost x y o = bool_case _ _ (omega (ints, minus_parts x y)) (omega (ints, minus_parts x y))
compares_apart Greater x y o = bool_case _ _ (omega (ints, minus_parts x y)) (omega (ints, minus_parts x y))
compares_apart AtLeast x y o = bool_case _ _ (omega (ints, minus_parts x y)) (omega (ints, minus_parts x y))
compares_apart Equal x y o = absurd o
compares_apart Different x y o = absurd o

apart_moves : (x y a b : ℤ) → (x -ℤ y) +ℤ (a -ℤ b) ≡ (x +ℤ a) -ℤ (y +ℤ b)
apart_moves x y a b = omega (ints, minus_parts x y, minus_parts a b, add_parts (x -ℤ y) (a -ℤ b), add_parts x a, add_parts y b, minus_parts (x +ℤ a) (y +ℤ b))

-- from a test on, or from a turn that is not tested
abbrev place : Bool → Place
place is-do = cond is-do at_body at_a_test

-- v and w move by Add steps, or the difference has no known step
module _ (c : Comparison) (o : T (ordered (sort c))) (v w : ℤ) where
  apart_steps : (is-do : Bool) (a b : ℤ) {move : ℤ → ℤ} {move' : Two → Two} {n : ℕ} → ((x : ℤ) → move x ≡ x +ℤ (a -ℤ b))
      → ((s : Two) → move' s ≡ record { tested = s.tested +ℤ a; second = s.second +ℤ b }) → Counted (λ x. compares c x (pos 0)) move (cond is-do (move (v -ℤ w)) (v -ℤ w)) n
      → Stepped (λ (s : Two). compares c s.tested s.second) move' (place is-do) (record { tested = v; second = w }) (cond is-do (suc n) n)
  apart_steps is-do a b {move} {move'} m m' d = by is-do d
    where
      R : ℤ → Two → Type 0
      R x s = x ≡ s.tested -ℤ s.second

      agree : (x : ℤ) (s : Two) → R x s → compares c x (pos 0) ≡ compares c s.tested s.second
      agree x s r = rw r (compares_apart c s.tested s.second o)

      on : (x : ℤ) (s : Two) → R x s → R (move x) (move' s)
      on x s r = rw (m x, m' s, r) (apart_moves s.tested s.second a b)

      by : (is-do : Bool) {n : ℕ} → Counted (λ x. compares c x (pos 0)) move (cond is-do (move (v -ℤ w)) (v -ℤ w)) n
          → Stepped (λ (s : Two). compares c s.tested s.second) move' (place is-do) (record { tested = v; second = w }) (cond is-do (suc n) n)
      by true d = takes (steps R agree (λ x s r h. on x s r) (on _ (record { tested = v; second = w }) refl) d)
      by false d = steps R agree (λ x s r h. on x s r) refl d

  chase_steps : (is-do up : Bool) (st st' : Step) (d : Sort) (s r l : Range) (e : ℤ) → Fit (difference st st') d s r l e → {n : ℕ}
      → Counted (λ x. compares c x (pos 0)) (worst_move up (difference st st')) (cond is-do (worst_move up (difference st st') (v -ℤ w)) (v -ℤ w)) n
      → Stepped (λ (s : Two). compares c s.tested s.second) (λ s. record { tested = worst_move up st s.tested; second = worst_move (not up) st' s.second })
      (place is-do) (record { tested = v; second = w }) (cond is-do (suc n) n)
  unfolding difference Fit
  chase_steps is-do true (Add a b) (Add a' b') d s r l e fit k = apart_steps is-do a b' (λ x. refl) (λ s. refl) k
  chase_steps is-do false (Add a b) (Add a' b') d s r l e fit k = apart_steps is-do b a' (λ x. refl) (λ s. refl) k
  chase_steps is-do up (Add a b) (Grow f g) d s r l e fit k = absurd fit
  chase_steps is-do up (Add a b) (Shrink f g) d s r l e fit k = absurd fit
  chase_steps is-do up (Add a b) Unknown d s r l e fit k = absurd fit
  chase_steps is-do up (Grow f g) st' d s r l e fit k = absurd fit
  chase_steps is-do up (Shrink f g) st' d s r l e fit k = absurd fit
  chase_steps is-do up Unknown st' d s r l e fit k = absurd fit

same_limit : (up : Bool) (k : ℤ) → cond up k k ≡ k
same_limit true k = refl
same_limit false k = refl

apart_start : (up : Bool) (a b c d : ℤ) → cond up (a -ℤ d) (b -ℤ c) ≡ cond up a b -ℤ cond up d c
apart_start true a b c d = refl
apart_start false a b c d = refl

module _ (ρ : Env) (test : Test) (body : Block) (w : ℕ) (o : T (ordered (sort test.comparison))) where
  -- the two ends as one difference, from the trip's
  chase_entry : (is-do : Bool) (d : Sort) (s r l : Range) (e : ℤ) (n : ℕ) → Fit (difference (step test.tested body) (step w body)) d s r l e
      → let up : Bool = upward test.comparison in
      let move : ℤ → ℤ = worst_move up (difference (step test.tested body) (step w body)) in
      let start : ℤ = cond up ((ρ test.tested).lo -ℤ (ρ w).hi) ((ρ test.tested).hi -ℤ (ρ w).lo) in
      Counted (λ x. compares test.comparison x (cond up (pos 0) (pos 0))) move (cond is-do (move start) start) n
      → Stepped (λ (s : Two). compares test.comparison s.tested s.second)
      (λ s. record { tested = worst_move up (step test.tested body) s.tested; second = worst_move (not up) (step w body) s.second })
      (place is-do) (record { tested = worst_start up (ρ test.tested); second = worst_limit up (ρ w) }) (cond is-do (suc n) n)
  chase_entry is-do d s r l e n fit c =
      let up = upward test.comparison in
      chase_steps test.comparison o _ _ is-do up _ _ d s r l e fit
      (simp (same_limit up (pos 0), apart_start up (ρ test.tested).lo (ρ test.tested).hi (ρ w).lo (ρ w).hi) at c)

  chased_turns : (i : ℕ) (form : Form) (n : ℕ) → of_trip i (chase_trip form ρ test body w) ≡ passed → CountedTrip (chase_trip form ρ test body w) n → ChasedTurns form ρ test body w n
  chased_turns i while n q c = chase_entry false _ _ _ _ _ n (loop_fits i _ _ _ _ _ _ _ _ q).0 c
  chased_turns i do_while n q (m, e, c) = rw e (chase_entry true _ _ _ _ _ m (loop_fits i _ _ _ _ _ _ _ _ q).0 c)
  chased_turns i hold n q c = chase_entry false _ _ _ _ _ n (loop_fits i _ _ _ _ _ _ _ _ q).0 c
  chased_turns i (for x) n q c = chase_entry false _ _ _ _ _ n (loop_fits i _ _ _ _ _ _ _ _ q).0 c

-- ---- change 12: the flag
other_way : (p q : Bool) → (p ≡ true → q ≡ true → ⊥) → (p ≡ false → q ≡ false → ⊥) → p ≡ not q
other_way true true f g = absurd (f refl refl)
other_way true false f g = refl
other_way false true f g = refl
other_way false false f g = absurd (g refl refl)

compares_not : (c : Comparison) (x y : ℤ) → T (ordered (sort (opposite c))) → compares (opposite c) x y ≡ not (compares c x y)
unfolding compares
compares_not Less x y o = other_way (le_z y x) (lt_z x y) (omega ints) (omega ints)
compares_not AtMost x y o = other_way (lt_z y x) (le_z x y) (omega ints) (omega ints)
compares_not Greater x y o = other_way (le_z x y) (lt_z y x) (omega ints) (omega ints)
compares_not AtLeast x y o = other_way (lt_z x y) (le_z y x) (omega ints) (omega ints)
compares_not Equal x y o = absurd o
compares_not Different x y o = absurd o

and_on : (a b : Bool) → T a → a && b ≡ b
and_on true b h = refl
and_on false b h = absurd h

-- the flag says what the opposite comparison says of the value that the off saw
module _ (c : Comparison) (k : ℤ) (o : T (ordered (sort (opposite c)))) (move : ℤ → ℤ) where
  abbrev held : Bool → Flagged → Flagged
  held ahead s = record { on = s.on && not (compares c (cond ahead (move s.watched) s.watched) k); watched = move s.watched }

  hold_steps : (ahead : Bool) (w : ℤ) {n : ℕ} → Counted (λ x. compares (opposite c) x k) move (cond ahead (move w) w) n
      → Stepped (λ (s : Flagged). s.on) (held ahead) at_body (record { on = true; watched = w }) (suc n)
  hold_steps true w d = takes (steps (λ x s. (compares (opposite c) x k ≡ s.on) × (x ≡ s.watched)) (λ x s r. r.0)
      (λ x s r h. (compares_not c (move x) k o ∙ ap (λ z. not (compares c (move z) k)) r.1 ∙ sym (and_on s.on _ (subst T r.0 h)), ap move r.1))
      (compares_not c (move w) k o, refl) d)
  hold_steps false w d = takes (steps (λ x s. (compares (opposite c) x k ≡ s.on) × (move x ≡ s.watched)) (λ x s r. r.0)
      (λ x s r h. (compares_not c (move x) k o ∙ ap (λ z. not (compares c z k)) r.1 ∙ sym (and_on s.on _ (subst T r.0 h)), ap move r.1))
      (compares_not c w k o, refl) d)

  hold_entry : (zero_flag ahead : Bool) (w : ℤ) (n m : ℕ) → n ≡ cond zero_flag 0 (suc m) → Counted (λ x. compares (opposite c) x k) move (cond ahead (move w) w) m
      → Stepped (λ (s : Flagged). s.on) (held ahead) at_a_test (record { on = not zero_flag; watched = w }) n
  hold_entry true ahead w n m e d = rw e (leaves tt)
  hold_entry false ahead w n m e d = rw e (enters tt (hold_steps ahead w d))

held_turns : (form : Form) (ρ : Env) (test : Test) (body : Block) (w : ℕ) (c : Comparison) (k : ℤ) (ahead : Bool) (n : ℕ) → T (ordered (sort (opposite c)))
    → CountedTrip (hold_trip ρ test body w c k ahead) n → HeldTurns form ρ test body w c k ahead n
held_turns form ρ test body w c k ahead n o (m, e, d) = hold_entry c k o _ (is_zero (ρ test.tested)) ahead _ n m e (rw (same_limit (upward (opposite c)) k) at d)

-- ---- by the loop's kind: what it says of steps and comparison
abbrev pub WaySays : Test → Block → Way → Type 0
WaySays test body own = Unit {0}
WaySays test body broken = Unit {0}
WaySays test body (copied w ahead) = T (is_add (step w body)) × T (ordered (sort test.comparison))
WaySays test body (chase w) = T (is_add (step w body)) × T (is_add (step test.tested body)) × T (ordered (sort test.comparison))
WaySays test body (watched w c k ahead) = T (toward (step w body) (sort (opposite c)))

module _ (test : Test) (body : Block) where
  limit_says : (x : Expr) → WaySays test body (limit_way test body x)
  unfolding limit_way
  limit_says (constant k) = tt
  limit_says (group x) = tt
  limit_says (apply o x y) = tt
  limit_says (variable w) = cond_elim (WaySays test body) (chases test body w) (chase w) own
      (λ h. let (_, h₁) = both (not (eqb w test.tested)) _ h in
      let (_, h₂) = both (assigns w body) _ h₁ in
      let (a, h₃) = both (is_add (step w body)) _ h₂ in
      let (b, c) = both (is_add (step test.tested body)) _ h₃ in
      (a, b, c)) (λ h. tt)

  sole_says : (s : Sole) → WaySays test body (sole_way test body s)
  unfolding sole_way
  sole_says other = limit_says test.limit
  sole_says (sole w (from x) before after) = cond_elim (WaySays test body) (copies test body w before after) (copied w before) own
      (λ h. let (_, h₁) = both (not (before && after)) _ h in
      let (a, h₂) = both (is_add (step w body)) _ h₁ in
      let (_, c) = both (moving (step w body)) _ h₂ in
      (a, c)) (λ h. tt)
  sole_says (sole w (changed d) before after) = tt
  sole_says (sole w (off u c k) before after) = tt

  -- a hold is counted by the variable that its off watches, or breaks its terms
  abbrev pub HeldWay : Way → Type 0
  HeldWay own = ⊥
  HeldWay broken = Unit {0}
  HeldWay (copied w ahead) = ⊥
  HeldWay (chase w) = ⊥
  HeldWay (watched w c k ahead) = T (toward (step w body) (sort (opposite c)))

  pub held_way : (s : Sole) → HeldWay (hold_way body s)
  unfolding hold_way
  held_way other = tt
  held_way (sole w (from x) before after) = tt
  held_way (sole w (changed d) before after) = tt
  held_way (sole w (off u c k) before after) = cond_elim HeldWay (not (before && after) && toward (step w body) (sort (opposite c))) (watched w c k before) broken
      (λ h. (both (not (before && after)) _ h).1) (λ h. tt)

  held_says : (way : Way) → HeldWay way → WaySays test body way
  held_says own h = absurd h
  held_says broken h = tt
  held_says (copied w ahead) h = absurd h
  held_says (chase w) h = absurd h
  held_says (watched w c k ahead) h = h

  pub way_says : (form : Form) → WaySays test body (way_of form test body)
  unfolding way_of
  way_says while = sole_says _
  way_says do_while = sole_says _
  way_says hold = held_says (hold_way body (sole_of test.tested body)) (held_way (sole_of test.tested body))
  way_says (for x) = limit_says _

toward_ordered : (st : Step) (d : Sort) → T (toward st d) → T (ordered d)
unfolding toward
toward_ordered st rising h = tt
toward_ordered st falling h = tt
toward_ordered st same h = h
toward_ordered st differ h = h

module _ (i : ℕ) (form : Form) (ρ : Env) (test : Test) (body : Block) where
  turns_by_lem : (way : Way) → WaySays test body way → of_trip i (trip_by way form ρ test body) ≡ passed → TurnsBy form ρ test body way (turns_of (trip_by way form ρ test body))
  unfolding trip_by FiguresCounted
  turns_by_lem own k q = λ o. own_turns ρ test body true form _ (figures_counted (own_trip true form ρ test body) i o q)
  turns_by_lem broken k q = (loop_fits i _ _ _ _ _ _ _ _ q).2
  turns_by_lem (copied w ahead) (_, o) q = copied_turns ρ test body w ahead form _ (figures_counted (copy_trip form ρ test body w ahead) i o q)
  turns_by_lem (chase w) (_, _, o) q = chased_turns ρ test body w o i form _ q (figures_counted (chase_trip form ρ test body w) i o q)
  turns_by_lem (watched w c k ahead) h q = let o = toward_ordered (step w body) _ h in held_turns form ρ test body w c k ahead _ o (figures_counted (hold_trip ρ test body w c k ahead) i o q)

  step_by : (way : Way) → (trip_by way form ρ test body).step ≡ Stepping.step_along form ρ test body way
  unfolding trip_by
  step_by own = refl
  step_by broken = refl
  step_by (copied w ahead) = refl
  step_by (chase w) = refl
  step_by (watched w c k ahead) = refl

-- ---- the lines
both_append : {A B : Type 0} {Q : A → B → Type 0} {x u : List A} {y v : List B} → Pairwise Q x y → Pairwise Q u v → Pairwise Q (x ++ u) (y ++ v)
both_append no_more k = k
both_append (and_then h t) k = and_then h (both_append t k)

stepped_lines : (r : Round) (k : Pass) (b : Block) (ρ : Env) → loops_verdict ρ b ≡ passed → Pairwise SteppedLine (loops_in ρ b) (lines r k ρ b)
unfolding loops_verdict loops_in lines
stepped_lines r k done ρ h = no_more
stepped_lines r k (plain i p rest) ρ h = stepped_lines r _ rest (after_row ρ p) h
stepped_lines r k (pick i e a b rest) ρ h =
    let (x, y) = then_yes (loops_verdict ρ a) _ h in
    let (u, v) = then_yes (loops_verdict ρ b) _ y in
    both_append (stepped_lines (alike (often r)) any a ρ x) (both_append (stepped_lines (alike (often r)) any b ρ u) (stepped_lines r _ rest (join (after ρ a) (after ρ b)) v))
stepped_lines r k (loop i e form test body rest) ρ h =
    let σ = at_start form test ρ in
    let (x, y) = then_yes _ _ h in
    let (u, v) = then_yes (loops_verdict (inside form σ test body) body) _ y in
    and_then (record { row = refl; step = step_by i form σ test body (way_of form test body); turns = turns_by_lem i form σ test body (way_of form test body) (way_says test body form) x })
    (both_append (stepped_lines (in_body r (start_pass form test k) form σ test body) (first_pass form σ test body) body (inside form σ test body) u) (stepped_lines r _ rest (outside form σ test body) v))

pub lines_stepped : LinesStepped
unfolding LinesStepped verdict
lines_stepped prices scratch file script e =
    let ok = (file_accepted prices scratch file script e).script_accepted in
    let (passes, _) = then_yes (loops_verdict (start_env script.ranges) (tree_of script.rows)) _ ok.loops in
    stepped_lines (alike 1) any (tree_of script.rows) (start_env script.ranges) passes

pub stepped_once : SteppedOnce
unfolding SteppedOnce
stepped_once S test move at x m n a b = once a b
  where
    once : {at : Place} {x : S} {m n : ℕ} → Stepped test move at x m → Stepped test move at x n → m ≡ n
    once (leaves h) (leaves k) = refl
    once (leaves {x = x} h) (enters k b) = absurd (T_not (test x) h k)
    once (enters {x = x} h a) (leaves k) = absurd (T_not (test x) k h)
    once (enters h a) (enters k b) = once a b
    once (takes a) (takes b) = ap suc (once a b)
