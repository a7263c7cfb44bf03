-- From the answers to the questions 8 to 12 to what the turns ask, and that turns are few.
use mathlib.Core.Path.{◌≡◌, refl, sym, ap, subst}
use mathlib.Core.Bool.{Bool, true, false, cond, ◌&&◌, ◌||◌}
use Prim.Native.Nat.{ℕ, zero, suc, ◌*◌, ◌≤◌, ◌<◌}
use native.Mathlib.Nat.{div-le_self}
use native.Mathlib.Omega.{arith}
use lib.Dec.{leb}
use lib.IntN.{ℤ, pos, negsuc, nat_abs, ◌-ℤ◌, ◌*ℤ◌}
use lib.Signed.{◌≤ℤ◌, le_z, lt_z}
use borrow.Author.Tests.{leb-true}
use Rattle.ints.specs.Ints.{eq_z}
use Rattle.ints.proofs.Parts.{ints, eq_z_true, minus_parts, abs_parts}
use Rattle.ints.proofs.Scale.{mul_P, mul_N}
use Rattle.rules_steps.specs.declared.Step.{Step}
use Rattle.rules_steps.specs.declared.Step.TheVariants.{Add, Grow, Shrink, Unknown}
use Rattle.rules_steps.specs.Ends.{Near, EndsWithin}
use Rattle.rules_steps.specs.Joins.{factor_limit}
use Rattle.rules.specs.Steps.{moving}
use Rattle.rules.specs.Ranges.{Range, Sort, rising, falling, same, differ, suits}
use Rattle.rules.specs.Turns.{powers, scale, share, apart, while_turns, moved, at_test}
use Rattle.rules.specs.Questions.{has_figure}
use Rattle.rules.proofs.Laws.{no_true}
use Rattle.analysis_turns.proofs.Few.{climb_few}
use Rattle.analysis_intervals.specs.declared.comparisons.WideInterval.{WideInterval}
use Rattle.analysis_intervals.specs.Wide.{wide_range}
use Rattle.analysis_turns.specs.Needs.{NearEnds, FirstTested, Countable}

or_cases : (a b : Bool) {C : Type 0} → a || b ≡ true → (a ≡ true → C) → (b ≡ true → C) → C
or_cases true b e f g = f refl
or_cases false b e f g = g e

and_left : (a b : Bool) → a && b ≡ true → a ≡ true
and_left true b e = refl
and_left false b e = e

-- a step that moves, with equal ends, is not 0
pub not_still : (a b : ℤ) → moving (Add a b) ≡ true → eq_z a b ≡ true → a ≡ pos 0 → ⊥
unfolding moving
not_still a b m e z =
    let q : a ≡ b = eq_z_true a b e in
    or_cases (le_z (pos 1) a) (le_z b (negsuc 0)) m (λ l. omega ints) (λ l. omega ints)

near_more : (z : ℤ) → Near 5 z → Near 1024 z
near_more z h = omega ints

pub near_step : (z : ℤ) → Near 512 z → Near 1024 z
near_step z h = omega ints

up : (z : ℤ) (f : ℕ) → pos 1 ≤ℤ z → 2 ≤ f → pos 1 ≤ℤ (z *ℤ pos f)
up (pos n) (suc f) h k = let l : 1 ≤ n = omega ints in omega (ints, mul_P (pos n) (suc f), mul_N (pos n) (suc f))
up (pos n) zero h k = absurd (let z : ⊥ = omega arith in z)
up (negsuc n) f h k = absurd h.le

-- Grow: what the first test sees is at least 1 where the start is
grow_start : (is-moved : Bool) (f g : ℕ) (s : Range) (r : WideInterval) → wide_range r ≡ at_test is-moved (Grow f g) s → 2 ≤ f → pos 1 ≤ℤ s.lo → pos 1 ≤ℤ r.lo
unfolding at_test moved
grow_start false f g s r e h k = subst (λ z. pos 1 ≤ℤ z) (sym (ap (λ (x : Range). x.lo) e)) k
grow_start true f g s r e h k = subst (λ z. pos 1 ≤ℤ z) (sym (ap (λ (x : Range). x.lo) e)) (up s.lo f k h)

pub countable : (is-moved : Bool) (st : Step) (d : Sort) (s : Range) (r n : WideInterval) (e : ℤ) → EndsWithin 512 st → Near 5 e → NearEnds n → wide_range r ≡ at_test is-moved st s → FirstTested st r
    → moving st ≡ true → suits st d ≡ true → has_figure st d s (wide_range r) (wide_range n) e ≡ true → Countable st d r n e
unfolding moving suits has_figure factor_limit
countable is-moved (Add a b) rising s r n e (na, nb) ne rn q rr m u h = let l : pos 1 ≤ℤ a = omega ints in (rr, near_more e ne, near_step a na, l)
countable is-moved (Add a b) falling s r n e (na, nb) ne rn q rr m u h = let l : b ≤ℤ negsuc 0 = omega ints in (rr, near_more e ne, near_step b nb, l)
countable is-moved (Add a b) same s r n e en ne rn q rr m u h = tt
countable is-moved (Add a b) differ s r n e (na, nb) ne rn q rr m u h = (near_step a na, not_still a b m (and_left (eq_z a b) _ h), rr, rn)
countable is-moved (Grow f g) rising s r n e en ne rn q rr m u h =
    let k : 2 ≤ f = leb-true 2 f m in
    let l : pos 1 ≤ℤ s.lo = omega ints in
    (grow_start is-moved f g s r q k l, ne, k, en.first)
countable is-moved (Grow f g) falling s r n e en ne rn q rr m u h = no_true u
countable is-moved (Grow f g) same s r n e en ne rn q rr m u h = no_true u
countable is-moved (Grow f g) differ s r n e en ne rn q rr m u h = no_true u
countable is-moved (Shrink f g) rising s r n e en ne rn q rr m u h = no_true u
countable is-moved (Shrink f g) falling s r n e en ne rn q rr m u h =
    let k : 2 ≤ f = leb-true 2 f m in
    let l : pos 1 ≤ℤ e = omega ints in
    (l, rr, k, en.first)
countable is-moved (Shrink f g) same s r n e en ne rn q rr m u h = no_true u
countable is-moved (Shrink f g) differ s r n e en ne rn q rr m u h = no_true u
countable is-moved Unknown d s r n e en ne rn q rr m u h = tt

-- ---- turns are few
abbrev few : ℕ
few = 2_048_000_000_001

gap_few : (x y : ℤ) → Near 1024 x → Near 1024 y → nat_abs (x -ℤ y) < few
gap_few x y h k = omega (ints, minus_parts x y, abs_parts (x -ℤ y))

by_test : (t : Bool) (x y : ℕ) → x ≤ few → y ≤ few → cond t x y ≤ few
by_test true x y h k = h
by_test false x y h k = k

one_more_lem : (b : Bool) (k fuel : ℕ) → k ≤ fuel → cond b (suc k) 0 ≤ suc fuel
one_more_lem true k fuel h = omega arith
one_more_lem false k fuel h = omega arith

powers_few : (fuel t e f : ℕ) → powers fuel t e f ≤ fuel
unfolding powers
powers_few zero t e f = omega arith
powers_few (suc fuel) t e f = one_more_lem (leb t e) (powers fuel (t * f) e f) fuel (powers_few fuel (t * f) e f)

scale_few : (t e : ℤ) (f : ℕ) → Near 5 e → scale t e f ≤ few
unfolding scale
scale_few t e f h = by_test (lt_z e t) _ _ (omega arith) (let k : nat_abs e ≤ 5_000_000_000 = omega (ints, abs_parts e) in omega (arith, powers_few (suc (nat_abs e)) (nat_abs t) (nat_abs e) f))

pub apart_few : (a : ℤ) (s n : Range) → Near 1024 s.lo → Near 1024 s.hi → Near 1024 n.lo → Near 1024 n.hi → apart a s n ≤ few
unfolding apart
apart_few a s n sl sh nl nh =
    by_test (eq_z a (pos 1)) _ _ (omega (arith, gap_few n.hi s.lo nh sl))
    (by_test (eq_z a (negsuc 0)) _ _ (omega (arith, gap_few s.hi n.lo sh nl))
    (omega (arith, gap_few n.lo s.lo nl sl, div-le_self (nat_abs (n.lo -ℤ s.lo)) (nat_abs a))))

pub turns_few : (st : Step) (d : Sort) (s n : WideInterval) (e : ℤ) → Countable st d s n e → while_turns st d (wide_range s) (wide_range n) e ≤ few
unfolding while_turns
turns_few (Add a b) rising s n e (r, ne, na, l) = climb_few 1024 1024 _ r.low ne
turns_few (Add a b) falling s n e (r, ne, nb, l) = climb_few 1024 1024 _ ne r.high
turns_few (Add a b) same s n e h = by_test (share (wide_range s) (wide_range n)) 1 0 (omega arith) (omega arith)
turns_few (Add a b) differ s n e (na, z, r, q) = apart_few a (wide_range s) (wide_range n) r.low r.high q.low q.high
turns_few (Grow f g) d s n e (l, ne, k, m) = scale_few s.lo e f ne
turns_few (Shrink f g) d s n e (l, nh, k, m) = scale_few e s.hi f nh
turns_few Unknown d s n e h = omega arith
