-- A file is accepted exactly when each question has yes.
use mathlib.Core.Path.{◌≡◌, refl, sym, ◌∙◌, ap, subst}
use mathlib.Core.Logic.{◌⊎◌, inl, inr}
use mathlib.Core.Bool.{Bool, true, false, not, cond, ◌&&◌, ◌||◌}
use mathlib.Core.List.{List, [], ◌∷◌, ◌++◌}
use Prim.Native.Nat.{ℕ, zero, suc, ◌*◌, ◌/◌, ◌≤◌, ◌<◌}
use native.Mathlib.Nat.{mul-div_cancel}
use native.Mathlib.Omega.{arith}
use lib.Dec.{T, T_not, leb, leb→le, le→leb}
use lib.ListN.{length, get_or}
use lib.IntN.{ℤ, pos, negsuc, nat_abs, ◌+ℤ◌, ◌-ℤ◌, ◌*ℤ◌}
use lib.Signed.{le_z, le_z_yes, ◌≤ℤ◌}
use Rattle.ints.specs.Ints.{eq_z}
use Rattle.ints.proofs.Parts.{P, N, ints, add_parts, minus_parts, abs_parts, eq_z_true, is_true}
use Rattle.ints.proofs.Scale.{mul_P, mul_N}
use Rattle.ints.proofs.Diffs.{cond_elim, cond_true, cond_false, both, and_in, eq_refl}
use Rattle.rules.specs.declared.Comparison.{Comparison}
use Rattle.rules_steps.specs.declared.Step.{Step}
use Rattle.rules_steps.specs.declared.Step.TheVariants.{Add, Grow, Shrink, Unknown}
use Rattle.rules.specs.Expressions.{Expr, constant, variable, group, apply}
use Rattle.rules.specs.Blocks.{Test, Form, Block, done, plain, pick, loop, hold}
use Rattle.rules.specs.Steps.{difference, assigns, is_add, moving, sole_of}
use Rattle.rules.specs.Ranges.{Range, Env, single, after_row, join, at_start, edge, is_do, ordered, suits, Sort, rising, falling, same, differ}
use Rattle.rules.specs.Turns.{apart, at_test, moved}
use Rattle.rules.specs.Trips.{Way, own, broken, copied, chase, watched, way_of, hold_way, keeps, trip_by, inside, outside, after}
use Rattle.rules.specs.Questions.{Verdict, passed, refused, asked, and_then, known, has_figure, loop_verdict, of_trip, loops_verdict, tick_limit}
use Rattle.rules.specs.FirstOver.{BlockTicks}
use Rattle.rules.specs.Scripts.{All, none, some}
use Rattle.rules.specs.Stepping.{LoopAt, loops_in}
use Rattle.rules.specs.Yes.{Known, Moves, Names, itself, grouped, first, second, Unchanged, Fitting, Meets, HasFigure, OwnYes, CopiedYes, ChasedYes, HoldsUnasked, Affordable}
use Rattle.rules.specs.Calls.{prices_verdict}
use Rattle.rules.proofs.Stepping.{WaySays, way_says, HeldWay, held_way}
use Rattle.rules.proofs.PlaceOf13.{listed}
use Rattle.rules.proofs.Good.{all_append}
use Rattle.rules.proofs.Accepted.{asked_yes, then_yes, hold_unasked}

-- ---- 19 and 8 to 12 by the loop's way
abbrev pub YesBy : Way → Form → Env → Test → Block → Type 0
YesBy own form ρ test body = OwnYes form ρ test body
YesBy (copied w ahead) form ρ test body = CopiedYes test body w
YesBy (chase w) form ρ test body = ChasedYes test body w
YesBy (watched w c k ahead) form ρ test body = Unit {0}
YesBy broken form ρ test body = ⊥

abbrev pub LoopYes : LoopAt → Type 0
LoopYes l = YesBy (way_of l.form l.test l.body) l.form l.start l.test l.body

-- ---- a test and what it says
le_is : {a b : ℤ} → a ≤ℤ b → T (le_z a b)
le_is h = h.le

eq_is : (a b : ℤ) → a ≡ b → T (eq_z a b)
eq_is a b e = subst (λ z. T (eq_z a z)) e (eq_refl a)

is_eq : (a b : ℤ) → T (eq_z a b) → a ≡ b
is_eq a b t = eq_z_true a b (is_true (eq_z a b) t)

ne_is : (a b : ℤ) → (a ≡ b → ⊥) → T (not (eq_z a b))
ne_is a b f = by (eq_z a b) (is_eq a b)
  where
    by : (t : Bool) → (T t → a ≡ b) → T (not t)
    by true g = f (g tt)
    by false g = tt

is_ne : (a b : ℤ) → T (not (eq_z a b)) → a ≡ b → ⊥
is_ne a b t e = T_not (eq_z a b) t (eq_is a b e)

or_left : (a b : Bool) → T (a || b) → T a ⊎ T b
or_left true b h = inl tt
or_left false b h = inr h

or_in : (a b : Bool) → T a ⊎ T b → T (a || b)
or_in true b h = tt
or_in false b (inl h) = absurd h
or_in false b (inr h) = h

-- ---- 8
known_yes : (st : Step) → T (known st) → Known st
unfolding known
known_yes (Add a b) h e = let z : ◌≡◌ {A = ℕ} 0 1 = cc in omega arith
known_yes (Grow f g) h e = let z : ◌≡◌ {A = ℕ} 0 1 = cc in omega arith
known_yes (Shrink f g) h e = let z : ◌≡◌ {A = ℕ} 0 1 = cc in omega arith
known_yes Unknown h e = h

yes_known : (st : Step) → Known st → T (known st)
unfolding known
yes_known (Add a b) h = tt
yes_known (Grow f g) h = tt
yes_known (Shrink f g) h = tt
yes_known Unknown h = h refl

-- ---- 9
pub moves_yes : (st : Step) → T (moving st) → Moves st
unfolding moving
moves_yes (Add a b) h = or_map (or_left (le_z (pos 1) a) (le_z b (negsuc 0)) h)
  where
    or_map : T (le_z (pos 1) a) ⊎ T (le_z b (negsuc 0)) → (pos 1 ≤ℤ a) ⊎ (b ≤ℤ negsuc 0)
    or_map (inl h) = inl (le_z_yes h)
    or_map (inr h) = inr (le_z_yes h)
moves_yes (Grow f g) h = leb→le 2 f h
moves_yes (Shrink f g) h = leb→le 2 f h
moves_yes Unknown h = h

pub yes_moves : (st : Step) → Moves st → T (moving st)
unfolding moving
yes_moves (Add a b) h = or_in (le_z (pos 1) a) (le_z b (negsuc 0)) (or_map h)
  where
    or_map : (pos 1 ≤ℤ a) ⊎ (b ≤ℤ negsuc 0) → T (le_z (pos 1) a) ⊎ T (le_z b (negsuc 0))
    or_map (inl h) = inl (le_is h)
    or_map (inr h) = inr (le_is h)
yes_moves (Grow f g) h = le→leb 2 f h
yes_moves (Shrink f g) h = le→leb 2 f h
yes_moves Unknown h = h

-- ---- 10
keeps_yes : (body : Block) {w : ℕ} {x : Expr} → T (keeps x body) → Names w x → T (not (assigns w body))
unfolding keeps
keeps_yes body h itself = h
keeps_yes body h (grouped n) = keeps_yes body h n
keeps_yes body h (first {x = x} {y = y} n) = keeps_yes body (both (keeps x body) (keeps y body) h).0 n
keeps_yes body h (second {x = x} {y = y} n) = keeps_yes body (both (keeps x body) (keeps y body) h).1 n

yes_keeps : (x : Expr) (body : Block) → Unchanged x body → T (keeps x body)
unfolding keeps
yes_keeps (constant k) body h = tt
yes_keeps (variable v) body h = h v itself
yes_keeps (group x) body h = yes_keeps x body (λ w n. h w (grouped n))
yes_keeps (apply o x y) body h = and_in (keeps x body) (keeps y body) (yes_keeps x body (λ w n. h w (first n))) (yes_keeps y body (λ w n. h w (second n)))

-- ---- 11
pub fitting_yes : (st : Step) (d : Sort) → T (suits st d) → Fitting st d
unfolding suits
fitting_yes (Add a b) rising h = le_z_yes h
fitting_yes (Add a b) falling h = le_z_yes h
fitting_yes (Add a b) same h = tt
fitting_yes (Add a b) differ h = tt
fitting_yes (Grow f g) rising h = tt
fitting_yes (Grow f g) falling h = h
fitting_yes (Grow f g) same h = h
fitting_yes (Grow f g) differ h = h
fitting_yes (Shrink f g) rising h = h
fitting_yes (Shrink f g) falling h = tt
fitting_yes (Shrink f g) same h = h
fitting_yes (Shrink f g) differ h = h
fitting_yes Unknown d h = h

pub yes_fitting : (st : Step) (d : Sort) → Fitting st d → T (suits st d)
unfolding suits
yes_fitting (Add a b) rising h = le_is h
yes_fitting (Add a b) falling h = le_is h
yes_fitting (Add a b) same h = tt
yes_fitting (Add a b) differ h = tt
yes_fitting (Grow f g) rising h = tt
yes_fitting (Grow f g) falling h = h
yes_fitting (Grow f g) same h = h
yes_fitting (Grow f g) differ h = h
yes_fitting (Shrink f g) rising h = h
yes_fitting (Shrink f g) falling h = tt
yes_fitting (Shrink f g) same h = h
yes_fitting (Shrink f g) differ h = h
yes_fitting Unknown d h = h

-- ---- 12 of !=
-- a number of steps from s to n is the quotient
divided : (a s n : ℤ) (k : ℕ) → s +ℤ a *ℤ pos k ≡ n → s +ℤ a *ℤ pos (nat_abs (n -ℤ s) / nat_abs a) ≡ n
divided a s n k e =
    let z : n -ℤ s ≡ a *ℤ pos k = omega (ints, minus_parts n s, add_parts s (a *ℤ pos k)) in
    let far : nat_abs (n -ℤ s) ≡ k * nat_abs a = ap nat_abs z ∙ times k in
    by (nat_abs a) refl far
  where
    times : (k : ℕ) → nat_abs (a *ℤ pos k) ≡ k * nat_abs a
    times k = omega (arith, abs_parts (a *ℤ pos k), mul_P a k, mul_N a k, ap (λ z. k * z) (abs_parts a).0)

    by : (m : ℕ) → nat_abs a ≡ m → nat_abs (n -ℤ s) ≡ k * m → s +ℤ a *ℤ pos (nat_abs (n -ℤ s) / m) ≡ n
    by zero q far =
        let j : ℕ = nat_abs (n -ℤ s) / 0 in
        let p : P a ≡ 0 = omega (arith, abs_parts a) in
        let m : N a ≡ 0 = omega (arith, abs_parts a) in
        omega (ints, add_parts s (a *ℤ pos k), add_parts s (a *ℤ pos j), mul_P a k, mul_N a k, mul_P a j, mul_N a j, ap (λ z. z * k) p, ap (λ z. z * k) m, ap (λ z. z * j) p, ap (λ z. z * j) m)
    by (suc m) q far = rw (far, mul-div_cancel k {n = suc m} (omega arith)) e

module _ (a b : ℤ) (r n : Range) where
  abbrev meets : Bool
  meets = eq_z a b && cond (eq_z a (pos 1)) (le_z r.hi n.lo) (cond (eq_z a (negsuc 0)) (le_z n.hi r.lo)
      (single r && (single n && eq_z (r.lo +ℤ a *ℤ pos (apart a r n)) n.lo)))

  abbrev by_division : Bool
  by_division = single r && (single n && eq_z (r.lo +ℤ a *ℤ pos (apart a r n)) n.lo)

  meets_yes : T meets → Meets a b r n
  meets_yes h =
      let (e, c) = both (eq_z a b) _ h in
      record {
        even = is_eq a b e;
        up = λ q. le_z_yes (subst T (cond_true (eq_z a (pos 1)) _ _ (eq_is a (pos 1) q)) c);
        down = λ q. le_z_yes (subst T (cond_false (eq_z a (pos 1)) (le_z r.hi n.lo) (cond (eq_z a (negsuc 0)) (le_z n.hi r.lo) by_division) (rw q tt) ∙ cond_true (eq_z a (negsuc 0)) (le_z n.hi r.lo) by_division (eq_is a (negsuc 0) q)) c);
        otherwise = λ x y. let (u, v) = both (single r) (single n && eq_z (r.lo +ℤ a *ℤ pos (apart a r n)) n.lo) (subst T (cond_false (eq_z a (pos 1)) (le_z r.hi n.lo) (cond (eq_z a (negsuc 0)) (le_z n.hi r.lo) by_division) (ne_is a (pos 1) x) ∙ cond_false (eq_z a (negsuc 0)) (le_z n.hi r.lo) by_division (ne_is a (negsuc 0) y)) c) in
            let (w, z) = both (single n) (eq_z (r.lo +ℤ a *ℤ pos (apart a r n)) n.lo) v in
            (is_eq r.lo r.hi u, is_eq n.lo n.hi w, (apart a r n, is_eq _ _ z));
      }

  yes_meets : Meets a b r n → T meets
  unfolding apart
  yes_meets m = and_in (eq_z a b) _ (eq_is a b m.even)
      (cond_elim T (eq_z a (pos 1)) (le_z r.hi n.lo) _ (λ t. le_is (m.up (is_eq a (pos 1) t)))
      (λ t. cond_elim T (eq_z a (negsuc 0)) (le_z n.hi r.lo) _ (λ u. le_is (m.down (is_eq a (negsuc 0) u)))
      (λ u. let (p, q, (k, e)) = m.otherwise (is_ne a (pos 1) t) (is_ne a (negsuc 0) u) in
      and_in (single r) _ (eq_is _ _ p) (and_in (single n) _ (eq_is _ _ q)
      (eq_is _ _ (subst (λ j. r.lo +ℤ a *ℤ pos j ≡ n.lo) (sym (cond_false (eq_z a (pos 1)) _ _ t ∙ cond_false (eq_z a (negsuc 0)) _ _ u)) (divided a r.lo n.lo k e)))))))

-- ---- 12
module _ (form : Form) (c : Comparison) (s n : Range) where
  figure_yes : (st : Step) (d : Sort) → T (has_figure st d s (at_test (is_do form) st s) n (edge c n)) → HasFigure form c st d s n
  unfolding has_figure at_test moved
  figure_yes (Add a b) rising h = tt
  figure_yes (Add a b) falling h = tt
  figure_yes (Add a b) same h = tt
  figure_yes (Add a b) differ h = meets_yes a b _ n h
  figure_yes (Grow f g) d h = le_z_yes h
  figure_yes (Shrink f g) d h = le_z_yes h
  figure_yes Unknown d h = tt

  yes_figure : (st : Step) (d : Sort) → HasFigure form c st d s n → T (has_figure st d s (at_test (is_do form) st s) n (edge c n))
  unfolding has_figure at_test moved
  yes_figure (Add a b) rising h = tt
  yes_figure (Add a b) falling h = tt
  yes_figure (Add a b) same h = tt
  yes_figure (Add a b) differ h = yes_meets a b _ n h
  yes_figure (Grow f g) d h = le_is h
  yes_figure (Shrink f g) d h = le_is h
  yes_figure Unknown d h = tt

-- ---- 19 and 8 to 12 of a loop
asked_on : (n p : ℕ) (b : Bool) (v : Verdict) → T b → v ≡ passed → asked n p b v ≡ passed
unfolding asked
asked_on n p true v h e = e
asked_on n p false v h e = absurd h

-- the answers of a loop's questions
record Answers (st : Step) (terms keep : Bool) (d : Sort) (s r n : Range) (e : ℤ) : Type 0 where
  yes_19 : T terms
  yes_8 : T (known st)
  yes_9 : T (moving st)
  yes_10 : T keep
  yes_11 : T (suits st d)
  yes_12 : T (has_figure st d s r n e)

module _ (i : ℕ) (st : Step) (terms keep : Bool) (d : Sort) (s r n : Range) (e : ℤ) where
  answers : loop_verdict i st terms keep d s r n e ≡ passed → Answers st terms keep d s r n e
  unfolding loop_verdict
  answers q =
      let (t, q₀) = asked_yes 19 i terms _ q in
      let (a, q₁) = asked_yes 8 i (known st) _ q₀ in
      let (b, q₂) = asked_yes 9 i (moving st) _ q₁ in
      let (c, q₃) = asked_yes 10 i keep _ q₂ in
      let (f, q₄) = asked_yes 11 i (suits st d) _ q₃ in
      let (g, _) = asked_yes 12 i (has_figure st d s r n e) _ q₄ in
      record { yes_19 = t; yes_8 = a; yes_9 = b; yes_10 = c; yes_11 = f; yes_12 = g }

  answered : Answers st terms keep d s r n e → loop_verdict i st terms keep d s r n e ≡ passed
  unfolding loop_verdict
  answered a =
      asked_on 19 i terms _ a.yes_19 (asked_on 8 i (known st) _ a.yes_8 (asked_on 9 i (moving st) _ a.yes_9
      (asked_on 10 i keep _ a.yes_10 (asked_on 11 i (suits st d) _ a.yes_11 (asked_on 12 i (has_figure st d s r n e) _ a.yes_12 refl)))))

add_known : (st : Step) → T (is_add st) → T (known st)
unfolding is_add known
add_known (Add a b) h = tt
add_known (Grow f g) h = tt
add_known (Shrink f g) h = tt
add_known Unknown h = h

add_figure : (st : Step) (d : Sort) (s r n : Range) (e : ℤ) → T (is_add st) → T (ordered d) → T (has_figure st d s r n e)
unfolding is_add has_figure
add_figure (Add a b) rising s r n e h o = tt
add_figure (Add a b) falling s r n e h o = tt
add_figure (Add a b) same s r n e h o = tt
add_figure (Add a b) differ s r n e h o = absurd o
add_figure (Grow f g) d s r n e h o = absurd h
add_figure (Shrink f g) d s r n e h o = absurd h
add_figure Unknown d s r n e h o = absurd h

difference_adds : (st st' : Step) → T (is_add st) → T (is_add st') → T (is_add (difference st st'))
unfolding is_add difference
difference_adds (Add a b) (Add c d) h k = tt
difference_adds (Add a b) (Grow f g) h k = k
difference_adds (Add a b) (Shrink f g) h k = k
difference_adds (Add a b) Unknown h k = k
difference_adds (Grow f g) st' h k = absurd h
difference_adds (Shrink f g) st' h k = absurd h
difference_adds Unknown st' h k = absurd h

module _ (i : ℕ) (form : Form) (ρ : Env) (test : Test) (body : Block) where
  loop_yes : (way : Way) → of_trip i (trip_by way form ρ test body) ≡ passed → YesBy way form ρ test body
  unfolding trip_by
  loop_yes own q =
      let a = answers i _ _ _ _ _ _ _ _ q in
      record {
        known = known_yes _ a.yes_8;
        moves = moves_yes _ a.yes_9;
        unchanged = λ w n. keeps_yes body a.yes_10 n;
        fitting = fitting_yes _ _ a.yes_11;
        figure = figure_yes form test.comparison _ _ _ _ a.yes_12;
      }
  loop_yes (copied w ahead) q =
      let a = answers i _ _ _ _ _ _ _ _ q in
      record { moves = moves_yes _ a.yes_9; unchanged = λ w n. keeps_yes body a.yes_10 n; fitting = fitting_yes _ _ a.yes_11 }
  loop_yes (chase w) q = let a = answers i _ _ _ _ _ _ _ _ q in record { moves = moves_yes _ a.yes_9; fitting = fitting_yes _ _ a.yes_11 }
  loop_yes (watched w c k ahead) q = tt
  loop_yes broken q = (answers i _ _ _ _ _ _ _ _ q).yes_19

  yes_loop : (way : Way) → WaySays test body way → YesBy way form ρ test body → of_trip i (trip_by way form ρ test body) ≡ passed
  unfolding trip_by
  yes_loop own k y = answered i _ _ _ _ _ _ _ _ (record {
    yes_19 = tt;
    yes_8 = yes_known _ y.known;
    yes_9 = yes_moves _ y.moves;
    yes_10 = yes_keeps _ body y.unchanged;
    yes_11 = yes_fitting _ _ y.fitting;
    yes_12 = yes_figure form test.comparison _ _ _ _ y.figure;
  })
  yes_loop (copied w ahead) (a, o) y = answered i _ _ _ _ _ _ _ _ (record {
    yes_19 = tt;
    yes_8 = add_known _ a;
    yes_9 = yes_moves _ y.moves;
    yes_10 = yes_keeps _ body y.unchanged;
    yes_11 = yes_fitting _ _ y.fitting;
    yes_12 = add_figure _ _ _ _ _ _ a o;
  })
  yes_loop (chase w) (b, a, o) y = let d = difference_adds _ _ a b in answered i _ _ _ _ _ _ _ _ (record {
    yes_19 = tt;
    yes_8 = add_known _ d;
    yes_9 = yes_moves _ y.moves;
    yes_10 = tt;
    yes_11 = yes_fitting _ _ y.fitting;
    yes_12 = add_figure _ _ _ _ _ _ d o;
  })
  yes_loop (watched w c k ahead) h y = hold_unasked i ρ test body w c k ahead h
  yes_loop broken k y = absurd y

pub holds_unasked : HoldsUnasked
unfolding HoldsUnasked way_of trip_by
holds_unasked i ρ test body = by (hold_way body (sole_of test.tested body)) (held_way test body _)
  where
    by : (way : Way) → HeldWay test body way → T (trip_by way hold ρ test body).terms → of_trip i (trip_by way hold ρ test body) ≡ passed
    by own h t = absurd h
    by broken h t = absurd t
    by (copied w ahead) h t = absurd h
    by (chase w) h t = absurd h
    by (watched w c k ahead) h t = hold_unasked i ρ test body w c k ahead h

-- ---- of every loop
all_split : {A : Type 0} {Q : A → Type 0} (x : List A) {y : List A} → All Q (x ++ y) → All Q x × All Q y
all_split [] k = (none, k)
all_split (a ∷ x) (some h t) = let (u, v) = all_split x t in (some h u, v)

pub then_on : (u v : Verdict) → u ≡ passed → v ≡ passed → and_then u v ≡ passed
unfolding and_then
then_on passed v e f = f
then_on (refused n p) v e f = e

pub loops_yes : (b : Block) (ρ : Env) → loops_verdict ρ b ≡ passed → All LoopYes (loops_in ρ b)
unfolding loops_verdict loops_in
loops_yes done ρ h = none
loops_yes (plain i p rest) ρ h = loops_yes rest (after_row ρ p) h
loops_yes (pick i e a b rest) ρ h =
    let (x, y) = then_yes (loops_verdict ρ a) _ h in
    let (u, v) = then_yes (loops_verdict ρ b) _ y in
    all_append (loops_yes a ρ x) (all_append (loops_yes b ρ u) (loops_yes rest (join (after ρ a) (after ρ b)) v))
loops_yes (loop i e form test body rest) ρ h =
    let σ = at_start form test ρ in
    let (x, y) = then_yes _ _ h in
    let (u, v) = then_yes (loops_verdict (inside form σ test body) body) _ y in
    some (loop_yes i form σ test body (way_of form test body) x) (all_append (loops_yes body (inside form σ test body) u) (loops_yes rest (outside form σ test body) v))

pub yes_loops : (b : Block) (ρ : Env) → All LoopYes (loops_in ρ b) → loops_verdict ρ b ≡ passed
unfolding loops_verdict loops_in
yes_loops done ρ h = refl
yes_loops (plain i p rest) ρ h = yes_loops rest (after_row ρ p) h
yes_loops (pick i e a b rest) ρ h =
    let (x, y) = all_split (loops_in ρ a) h in
    let (u, v) = all_split (loops_in ρ b) y in
    then_on _ _ (yes_loops a ρ x) (then_on _ _ (yes_loops b ρ u) (yes_loops rest (join (after ρ a) (after ρ b)) v))
yes_loops (loop i e form test body rest) ρ (some x y) =
    let σ = at_start form test ρ in
    let (u, v) = all_split (loops_in (inside form σ test body) body) y in
    then_on _ _ (yes_loop i form σ test body (way_of form test body) (way_says test body form) x)
    (then_on _ _ (yes_loops body (inside form σ test body) u) (yes_loops rest (outside form σ test body) v))

-- ---- 13
pub within_yes : (e n : ℕ) (v : Verdict) → asked 13 e (leb n tick_limit) v ≡ passed → (n ≤ 1_000_000_000_000) × (v ≡ passed)
unfolding tick_limit
within_yes e n v h = let (t, q) = asked_yes 13 e (leb n 1_000_000_000_000) v h in (leb→le n 1_000_000_000_000 t, q)

pub yes_within : (e n : ℕ) (v : Verdict) → n ≤ 1_000_000_000_000 → v ≡ passed → asked 13 e (leb n tick_limit) v ≡ passed
unfolding tick_limit
yes_within e n v h q = asked_on 13 e (leb n 1_000_000_000_000) v (le→leb n 1_000_000_000_000 h) q

pub listed_yes : (bs : List BlockTicks) → listed bs ≡ passed → All (λ b. Affordable b.ticks) bs
unfolding listed
listed_yes [] h = none
listed_yes (b ∷ bs) h = let (a, q) = within_yes b.row b.ticks (listed bs) h in some a (listed_yes bs q)

pub yes_listed : (bs : List BlockTicks) → All (λ b. Affordable b.ticks) bs → listed bs ≡ passed
unfolding listed
yes_listed [] h = refl
yes_listed (b ∷ bs) (some a h) = yes_within b.row b.ticks (listed bs) a (yes_listed bs h)

-- ---- 16
pub prices_fine : (n i : ℕ) (l : List ℕ) → length l ≡ n → ((k : ℕ) → k < n → (1 ≤ get_or l k 0) × (get_or l k 0 ≤ 1_000)) → prices_verdict n i l ≡ passed
unfolding prices_verdict
prices_fine zero i [] e h = refl
prices_fine zero i (p ∷ ps) e h = absurd (omega arith)
prices_fine (suc n) i [] e h = absurd (omega arith)
prices_fine (suc n) i (p ∷ ps) e h =
    let (a, b) = h 0 (omega arith) in
    cond_true (leb 1 p && leb p 1_000) _ _ (and_in (leb 1 p) (leb p 1_000) (le→leb 1 p a) (le→leb p 1_000 b)) ∙ prices_fine n (suc i) ps (omega arith) (λ k lt. h (suc k) (omega arith))
