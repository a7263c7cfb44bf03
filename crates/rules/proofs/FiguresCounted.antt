-- For < <= > >= the closed figure of a loop is the number of its turns, counted by stepping.
use mathlib.Core.Path.{◌≡◌, refl, sym, ◌∙◌, ap, subst}
use mathlib.Core.Bool.{Bool, true, false, not, cond}
use Prim.Native.Nat.{ℕ, zero, suc, ◌+◌, ◌*◌, ◌/◌, ◌≤◌, ◌<◌}
use native.Mathlib.Nat.{mul-le-mul_left, le-div_iff_mul-le, div-lt_iff_lt-mul}
use native.Mathlib.Omega.{arith}
use lib.Dec.{T, T_not, leb, leb→le, nleb→lt}
use lib.IntN.{ℤ, pos, ◌+ℤ◌, ◌*ℤ◌, negsuc}
use lib.Signed.{le_z}
use Rattle.ints.proofs.Parts.{P, N, add_parts, neg_parts, lone, ints}
use Rattle.ints.proofs.Scale.{mul_P, mul_N, floor_P, floor_within}
use Rattle.ints.proofs.Diffs.{of, nat, minus, ◌≼◌, ◌≺◌, ◌⊕◌, gap, lt_yes, lt_no, eq_refl, cond_elim, mul_more, le_yes, le_no, tests}
use Rattle.rules.specs.declared.AddLoop.{AddLoop}
use Rattle.rules.specs.declared.Comparison.{Comparison}
use Rattle.rules.specs.declared.Comparison.TheVariants.{Less, AtMost, Greater, AtLeast, Equal, Different}
use Rattle.rules_steps.specs.declared.Step.{Step}
use Rattle.rules_steps.specs.declared.Step.TheVariants.{Add, Grow, Shrink, Unknown}
use Rattle.rules.specs.Values.{compares, quotient, upward}
use Rattle.rules.specs.Ranges.{Range, edge, rising, falling, ordered, sort}
use Rattle.rules.specs.Turns.{climb, powers, scale, while_turns, moved, at_test, turned_up, from_zero, turns_to}
use Rattle.rules.specs.Trips.{Lead, nothing, untested, tries, edge_of, first_of, misses, led, turns_of, flag}
use Rattle.rules.specs.Count.{Counted, CountedAfter, stop, turn, worst_start, worst_limit, worst_move, CountedEntry, FiguresCounted, CountedLoop, EdgeKeeps, TurnedUpKeeps, FromZeroKeeps, ByOneKeeps}
use Rattle.rules.proofs.Links.{Fit}
use Rattle.rules.proofs.Scaling.{powers_more, powers_none, scale_is}
use Rattle.rules.proofs.MovesKeep.{edge_keeps, turned_up_keeps, from_zero_keeps, by_one_keeps}
use Rattle.rules.proofs.Chain.{grow_lo, NotPast, Past, passes, fails}
use Rattle.rules.proofs.Accepted.{loop_fits}

-- a figure that falls by one with each turn, and is 0 where the test fails
count_by_lem : (test : ℤ → Bool) (move : ℤ → ℤ) (Inv : ℤ → Type 0) (φ : ℤ → ℕ)
    → ((x : ℤ) → Inv x → T (test x) → Inv (move x) × (φ x ≡ suc (φ (move x)))) → ((x : ℤ) → Inv x → T (not (test x)) → φ x ≡ 0)
    → (x : ℤ) → Inv x → Counted test move x (φ x)
count_by_lem test move Inv φ on off x inv = subst (λ n. Counted test move x n) refl (from (φ x) x inv refl)
  where
    go : (n : ℕ) → ((y : ℤ) → Inv y → φ y ≡ n → Counted test move y n) → (x : ℤ) → Inv x → φ x ≡ suc n → (b : Bool) → (T b → T (test x)) → (T (not b) → T (not (test x))) → Counted test move x (suc n)
    go n ih x inv e true y f = let (i, s) = on x inv (y tt) in turn (y tt) (ih (move x) i (omega arith))
    go n ih x inv e false y f = absurd (omega (arith, off x inv (f tt)))

    none : (x : ℤ) → Inv x → φ x ≡ 0 → (b : Bool) → (T b → T (test x)) → (T (not b) → T (not (test x))) → Counted test move x 0
    none x inv e true y f = let (i, s) = on x inv (y tt) in absurd (omega arith)
    none x inv e false y f = stop (f tt)

    from : (n : ℕ) (x : ℤ) → Inv x → φ x ≡ n → Counted test move x n
    from zero x inv e = none x inv e (test x) (λ t. t) (λ t. t)
    from (suc n) x inv e = go n (λ y i q. from n y i q) x inv e (test x) (λ t. t) (λ t. t)

-- ---- Add: by the moves, from the last loop
last_counted : (m : ℤ) → CountedLoop AtMost (record { start = pos 0; limit = m; step = pos 1 }) (turns_to m)
unfolding compares
last_counted m = subst (CountedLoop AtMost (record { start = pos 0; limit = m; step = pos 1 })) (left m) (count_by_lem (λ i. le_z i m) (λ i. i +ℤ pos 1) (λ _. Unit {0}) (λ i. gap (of m ⊕ nat 1) (of i))
    (λ i _ p. (tt, omega (tests, add_parts i (pos 1)))) (λ i _ p. omega tests) (pos 0) tt)
  where
    left : (m : ℤ) → gap (of m ⊕ nat 1) (nat 0) ≡ turns_to m
    left (pos n) = omega arith
    left (negsuc n) = omega arith

count_up : (l : AddLoop) → nat 1 ≼ of l.step → CountedLoop AtMost l (climb l)
unfolding climb FromZeroKeeps ByOneKeeps
count_up l rise = (from_zero_keeps l _).1 ((by_one_keeps (from_zero l) refl (omega ints) _).1 (last_counted _))

count_down : (l : AddLoop) → of l.step ≼ minus 1 → CountedLoop AtLeast l (climb (turned_up l))
unfolding TurnedUpKeeps
count_down l fall = (turned_up_keeps l _).1 (count_up (turned_up l) (omega (arith, neg_parts l.step)))

-- ---- Grow and Shrink
powers_fuel : (u v m e f : ℕ) → 2 ≤ f → 1 ≤ m → e < m + u → e < m + v → powers u m e f ≡ powers v m e f
powers_fuel zero v m e f two one h k = powers_none zero m e f (omega arith) ∙ sym (powers_none v m e f (omega arith))
powers_fuel (suc u) zero m e f two one h k = powers_none (suc u) m e f (omega arith) ∙ sym (powers_none zero m e f (omega arith))
powers_fuel (suc u) (suc v) m e f two one h k =
    cond_elim {A = ℕ} (λ _. powers (suc u) m e f ≡ powers (suc v) m e f) (leb m e) 0 0
    (λ p. let le : m ≤ e = leb→le m e p in
    let grows : m + 1 ≤ m * f = omega (arith, mul-le-mul_left m two) in
    powers_more u m e f le ∙ ap suc (powers_fuel u v (m * f) e f two (omega arith) (omega arith) (omega arith)) ∙ sym (powers_more v m e f le))
    (λ p. let lt : e < m = nleb→lt m e p in powers_none (suc u) m e f lt ∙ sym (powers_none (suc v) m e f lt))

-- D·f^(k + 1) <= X and D·f^k <= X/f are the same
powers_div : (u v m X f : ℕ) → 2 ≤ f → 1 ≤ m → X < m * f + u → X / f < m + v → powers u (m * f) X f ≡ powers v m (X / f) f
powers_div zero v m X f two one h k =
    powers_none zero (m * f) X f (omega arith) ∙ sym (powers_none v m (X / f) f ((div-lt_iff_lt-mul {k = f} {x = X} {y = m} (omega arith)).1 (omega arith)))
powers_div (suc u) zero m X f two one h k =
    powers_none (suc u) (m * f) X f ((div-lt_iff_lt-mul {k = f} {x = X} {y = m} (omega arith)).0 (omega arith)) ∙ sym (powers_none zero m (X / f) f (omega arith))
powers_div (suc u) (suc v) m X f two one h k =
    cond_elim {A = ℕ} (λ _. powers (suc u) (m * f) X f ≡ powers (suc v) m (X / f) f) (leb m (X / f)) 0 0
    (λ p. let le : m ≤ X / f = leb→le m (X / f) p in
    let le' : m * f ≤ X = (le-div_iff_mul-le {k = f} {x = m} {y = X} (omega arith)).0 le in
    let grows : m + 1 ≤ m * f = omega (arith, mul-le-mul_left m two) in
    let grows' : m * f + 1 ≤ m * f * f = omega (arith, mul-le-mul_left (m * f) two) in
    powers_more u (m * f) X f le' ∙ ap suc (powers_div u v (m * f) X f two (omega arith) (omega arith) (omega arith)) ∙ sym (powers_more v m (X / f) f le))
    (λ p. let lt : X / f < m = nleb→lt m (X / f) p in
    powers_none (suc u) (m * f) X f ((div-lt_iff_lt-mul {k = f} {x = X} {y = m} (omega arith)).0 lt) ∙ sym (powers_none (suc v) m (X / f) f lt))

module _ (f : ℕ) (two : 2 ≤ f) where
  scale_none : (t e : ℤ) → nat 1 ≼ of t → of e ≺ of t → scale t e f ≡ 0
  scale_none t e one h = scale_is t e f one ∙ powers_none _ _ _ f (omega arith)

  grow_turn : (t e : ℤ) → nat 1 ≼ of t → of t ≼ of e → scale t e f ≡ suc (scale (t *ℤ pos f) e f)
  grow_turn t e one h =
      let X : ℕ = gap (of t) (nat 0) in
      let E : ℕ = gap (of e) (nat 0) in
      let mp = mul_P t f in
      let mn = mul_N t f in
      let grows = mul_more (of t) 1 f (omega arith) (omega arith) in
      let split : P t ≡ N t + X = omega arith in
      let Xf : gap (of (t *ℤ pos f)) (nat 0) ≡ X * f = omega (arith, ap (λ z. z * f) split) in
      scale_is t e f one
      ∙ powers_more E X E f (omega arith)
      ∙ ap suc (powers_fuel E (suc E) (X * f) E f two (omega arith) (omega (arith, mul-le-mul_left X two)) (omega arith))
      ∙ ap (λ z. suc (powers (suc E) z E f)) (sym Xf)
      ∙ ap suc (sym (scale_is (t *ℤ pos f) e f (omega arith)))

  shrink_turn : (t e : ℤ) → nat 1 ≼ of e → of e ≼ of t → scale e t f ≡ suc (scale e (quotient t f) f)
  shrink_turn t e one h =
      let X : ℕ = gap (of t) (nat 0) in
      let D : ℕ = gap (of e) (nat 0) in
      let qp = floor_P t f in
      let near = floor_within t f in
      let l = lone t in
      let px : P t ≡ X = omega arith in
      let Xf : gap (of (quotient t f)) (nat 0) ≡ X / f = omega (arith, ap (λ z. z / f) px) in
      scale_is e t f one
      ∙ powers_more X D X f (omega arith)
      ∙ ap suc (powers_div X (suc (X / f)) D X f two (omega arith) (omega (arith, mul-le-mul_left D two)) (omega arith))
      ∙ ap (λ z. suc (powers (suc z) D z f)) (sym Xf)
      ∙ ap suc (sym (scale_is e (quotient t f) f one))

  count_grow : (e x : ℤ) → nat 1 ≼ of x → Counted (λ y. le_z y e) (λ y. y *ℤ pos f) x (scale x e f)
  count_grow e x one = count_by_lem _ (λ y. y *ℤ pos f) (λ y. nat 1 ≼ of y) (λ y. scale y e f)
      (λ y i p. (omega (arith, mul_P y f, mul_N y f, mul_more (of y) 1 f (omega arith) (omega arith)), grow_turn y e i (le_yes y e p)))
      (λ y i p. scale_none y e i (le_no y e p))
      x one

  count_shrink : (e x : ℤ) → nat 1 ≼ of e → Counted (λ y. le_z e y) (λ y. quotient y f) x (scale e x f)
  count_shrink e x one = count_by_lem _ (λ y. quotient y f) (λ _. Unit {0}) (λ y. scale e y f)
      (λ y _ p. (tt, shrink_turn y e one (le_yes e y p)))
      (λ y _ p. scale_none e y one (le_no e y p))
      x tt

-- ---- every loop with <= and >=, e its limit
module _ (is-moved : Bool) (s n : Range) (e : ℤ) where
  counted_up : (st : Step) → Fit st rising s (at_test is-moved st s) n e
      → Counted (λ x. compares AtMost x e) (worst_move true st) (at_test is-moved st s).lo (while_turns st rising (at_test is-moved st s) n e)
  unfolding Fit while_turns compares
  counted_up (Add a b) fit = count_up _ fit
  counted_up (Grow f g) (two, one) = count_grow f two e _ (omega (arith, grow_lo is-moved f g s two one))
  counted_up (Shrink f g) fit = absurd fit
  counted_up Unknown fit = absurd fit

  counted_down : (st : Step) → Fit st falling s (at_test is-moved st s) n e
      → Counted (λ x. compares AtLeast x e) (worst_move false st) (at_test is-moved st s).hi (while_turns st falling (at_test is-moved st s) n e)
  unfolding Fit while_turns compares
  counted_down (Add a b) fit = count_down _ fit
  counted_down (Grow f g) fit = absurd fit
  counted_down (Shrink f g) (two, one) = count_shrink f two e _ one
  counted_down Unknown fit = absurd fit

-- E is that of the worst limit alone
abbrev point : ℤ → Range
point x = record { lo = x; hi = x }

worst_edge : (c : Comparison) (n : Range) → T (ordered (sort c)) → edge c (point (worst_limit (upward c) n)) ≡ edge c n
unfolding edge
worst_edge Less n o = refl
worst_edge AtMost n o = refl
worst_edge Greater n o = refl
worst_edge AtLeast n o = refl
worst_edge Equal n o = absurd o
worst_edge Different n o = absurd o

module _ (c : Comparison) (n : Range) (o : T (ordered (sort c))) where
  abbrev worst_test : ℤ → Bool
  worst_test x = compares c x (worst_limit (upward c) n)

  worst_passes : (x : ℤ) → T (worst_test x) → NotPast (sort c) (edge c n) x
  worst_passes x p = subst (λ e. NotPast (sort c) e x) (worst_edge c n o) (passes c (point (worst_limit (upward c) n)) _ x (omega arith) p)

  worst_fails : (x : ℤ) → T (not (worst_test x)) → Past (sort c) (edge c n) x
  worst_fails x p = subst (λ e. Past (sort c) e x) (worst_edge c n o) (fails c (point (worst_limit (upward c) n)) _ x (omega arith) (eq_refl (worst_limit (upward c) n)) p)

-- upward is rising
sort_up : (c : Comparison) → T (ordered (sort c)) → sort c ≡ cond (upward c) rising falling
sort_up Less o = refl
sort_up AtMost o = refl
sort_up Greater o = refl
sort_up AtLeast o = refl
sort_up Equal o = absurd o
sort_up Different o = absurd o

-- from the first counted test on: by E to <= or >=
counted : (is-moved : Bool) (st : Step) (c : Comparison) (s n : Range) → T (ordered (sort c)) → Fit st (sort c) s (at_test is-moved st s) n (edge c n)
    → Counted (λ x. compares c x (worst_limit (upward c) n)) (worst_move (upward c) st) (worst_start (upward c) (at_test is-moved st s)) (while_turns st (sort c) (at_test is-moved st s) n (edge c n))
unfolding EdgeKeeps
counted is-moved st c s n o fit = (edge_keeps c o n _ _ _).1 (by c o fit)
  where
    by : (c : Comparison) → T (ordered (sort c)) → Fit st (sort c) s (at_test is-moved st s) n (edge c n)
        → Counted (λ x. compares (cond (upward c) AtMost AtLeast) x (edge c n)) (worst_move (upward c) st) (worst_start (upward c) (at_test is-moved st s)) (while_turns st (sort c) (at_test is-moved st s) n (edge c n))
    by Less o fit = counted_up is-moved s n _ st fit
    by AtMost o fit = counted_up is-moved s n _ st fit
    by Greater o fit = counted_down is-moved s n _ st fit
    by AtLeast o fit = counted_down is-moved s n _ st fit
    by Equal o fit = absurd o
    by Different o fit = absurd o

-- the best start is that of the turns before
worst_miss : (up : Bool) (s : Range) (e : ℤ) → (T (misses (cond up rising falling) s e) → Past (cond up rising falling) e (worst_start up s))
    × (T (not (misses (cond up rising falling) s e)) → NotPast (cond up rising falling) e (worst_start up s))
unfolding misses
worst_miss true s e = (lt_yes e s.lo, lt_no e s.lo)
worst_miss false s e = (lt_yes s.hi e, lt_no s.hi e)

-- the worst start, moved by one turn
worst_moved : (up : Bool) (st : Step) (s : Range) → worst_start up (moved st s) ≡ worst_move up st (worst_start up s)
unfolding moved
worst_moved true (Add a b) s = refl
worst_moved false (Add a b) s = refl
worst_moved true (Grow f g) s = refl
worst_moved false (Grow f g) s = refl
worst_moved true (Shrink f g) s = refl
worst_moved false (Shrink f g) s = refl
worst_moved true Unknown s = refl
worst_moved false Unknown s = refl

worst_first : (is-moved up : Bool) (st : Step) (s : Range) → worst_start up (at_test is-moved st s) ≡ cond is-moved (worst_move up st (worst_start up s)) (worst_start up s)
unfolding at_test
worst_first true up st s = worst_moved up st s
worst_first false up st s = refl

-- a test that is decided by E
decided : (up : Bool) (e y : ℤ) (test : ℤ → Bool) → ((x : ℤ) → T (test x) → NotPast (cond up rising falling) e x) → ((x : ℤ) → T (not (test x)) → Past (cond up rising falling) e x)
    → (NotPast (cond up rising falling) e y → T (test y)) × (Past (cond up rising falling) e y → T (not (test y)))
decided up e y test u p = (λ a. (by (test y) (u y) (p y)).0 a, λ a. (by (test y) (u y) (p y)).1 a)
  where
    never : (up : Bool) → NotPast (cond up rising falling) e y → Past (cond up rising falling) e y → ⊥
    never true a b = omega arith
    never false a b = omega arith

    by : (t : Bool) → (T t → NotPast (cond up rising falling) e y) → (T (not t) → Past (cond up rising falling) e y)
        → (NotPast (cond up rising falling) e y → T t) × (Past (cond up rising falling) e y → T (not t))
    by true u p = (λ _. tt, λ b. absurd (never up (u tt) b))
    by false u p = (λ a. absurd (never up a (p tt)), λ _. tt)

-- with what comes before it
entry_of : (lead : Lead) (up : Bool) (e : ℤ) (test : ℤ → Bool) (move : ℤ → ℤ) (x : ℤ) (k : ℕ) → Counted test move x k
    → ((x : ℤ) → T (test x) → NotPast (cond up rising falling) e x) → ((x : ℤ) → T (not (test x)) → Past (cond up rising falling) e x)
    → CountedEntry lead up test move x (led lead (cond up rising falling) e k)
unfolding led
entry_of nothing up e test move x k h u p = h
entry_of untested up e test move x k h u p = (k, refl, h)
entry_of (flag s) up e test move x k h u p = (k, refl, h)
entry_of (tries s) up e test move x k h u p =
    let (a, b) = decided up e (worst_start up s) test u p in
    let (m, n) = worst_miss up s e in
    cond_elim (λ z. CountedAfter test move (worst_start up s) x z) (misses (cond up rising falling) s e) 0 (suc k) (λ y. CountedAfter.fails (b (m y))) (λ y. CountedAfter.passes (a (n y)) h)

-- demand 2's law on figures
pub figures_counted : FiguresCounted
unfolding FiguresCounted turns_of
figures_counted τ i o q =
    let c = τ.comparison in
    let up = upward c in
    let fit = (loop_fits i τ.step τ.terms τ.keeps (sort c) τ.start (first_of τ) τ.limit (edge_of τ) q).0 in
    let test = worst_test c τ.limit o in
    let same = sort_up c o in
    let u : (x : ℤ) → T (test x) → NotPast (cond up rising falling) (edge_of τ) x = λ x p. rw same at (worst_passes c τ.limit o x p) in
    let p : (x : ℤ) → T (not (test x)) → Past (cond up rising falling) (edge_of τ) x = λ x p. rw same at (worst_fails c τ.limit o x p) in
    rw same (entry_of τ.lead up (edge_of τ) test _ _ _
    (rw (worst_first τ.moved up τ.step τ.start, same) at (counted τ.moved τ.step c τ.start τ.limit o fit)) u p)

-- and a count is one number, so that the figure is the count
pub counted_one : {test : ℤ → Bool} {move : ℤ → ℤ} {x : ℤ} {m n : ℕ} → Counted test move x m → Counted test move x n → m ≡ n
counted_one (stop h) (stop k) = refl
counted_one {test} (stop {x = x} h) (turn k c) = absurd (T_not (test x) h k)
counted_one {test} (turn {x = x} h b) (stop k) = absurd (T_not (test x) k h)
counted_one (turn h b) (turn k c) = ap suc (counted_one b c)
