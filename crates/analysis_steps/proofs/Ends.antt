-- The ends of steps stay near 0: over n rows, within n times L.
use mathlib.Core.Bool.{Bool, true, false, cond}
use Prim.Native.Nat.{ℕ, ◌+◌, ◌*◌, ◌≤◌, min, max}
use native.Mathlib.Omega.{arith}
use lib.Dec.{eqb}
use lib.IntN.{ℤ, ◌+ℤ◌, neg_ℤ, pos, ◌-ℤ◌}
use Rattle.ints.specs.Ints.{min_z, max_z}
use Rattle.ints.proofs.Parts.{ints, add_parts, neg_parts, min_parts, max_parts, minus_parts}
use Rattle.rules.specs.declared.Change.{Change}
use Rattle.rules_steps.specs.declared.Step.{Step}
use Rattle.rules_steps.specs.declared.Step.TheVariants.{Add, Grow, Shrink, Unknown}
use Rattle.rules_steps.specs.Joins.{still, stands, factor_limit, product, then, either}
use Rattle.rules.specs.Steps.{change_step, difference}
use Rattle.rules_steps.specs.Ends.{Near, Factors, EndsWithin}
use Rattle.rules.specs.Bounds.{FineChange}

near_more : {n m : ℕ} {a : ℤ} → n ≤ m → Near n a → Near m a
near_more {n} {m} {a} h k = omega (ints, neg_parts (pos (n * 1_000_000_000)), neg_parts (pos (m * 1_000_000_000)))

near_sum : {n m : ℕ} {a b : ℤ} → Near n a → Near m b → Near (n + m) (a +ℤ b)
near_sum {n} {m} {a} {b} h k =
    omega (ints, add_parts a b, neg_parts (pos (n * 1_000_000_000)), neg_parts (pos (m * 1_000_000_000)), neg_parts (pos ((n + m) * 1_000_000_000)))

near_min : {n : ℕ} {a b : ℤ} → Near n a → Near n b → Near n (min_z a b)
near_min {n} {a} {b} h k = omega (ints, min_parts a b)

near_max : {n : ℕ} {a b : ℤ} → Near n a → Near n b → Near n (max_z a b)
near_max {n} {a} {b} h k = omega (ints, max_parts a b)

-- a step that fewer rows make
pub ends_more : (n m : ℕ) → n ≤ m → (s : Step) → EndsWithin n s → EndsWithin m s
ends_more n m h (Add a b) (p, q) = (near_more h p, near_more h q)
ends_more n m h (Grow f g) e = e
ends_more n m h (Shrink f g) e = e
ends_more n m h Unknown e = tt

pub still_ends : (n : ℕ) → EndsWithin n still
still_ends n =
    let h : Near n (pos 0) = omega (ints, neg_parts (pos (n * 1_000_000_000))) in
    (h, h)

ends_cond : (n : ℕ) (t : Bool) (s u : Step) → EndsWithin n s → EndsWithin n u → EndsWithin n (cond t s u)
ends_cond n true s u p q = p
ends_cond n false s u p q = q

pub ends_only : (n : ℕ) (t : Bool) (s : Step) → EndsWithin n s → EndsWithin n (cond t s still)
ends_only n t s e = ends_cond n t s still e (still_ends n)

-- two parts in sequence
products : (f g h i : ℕ) → Factors (product f h) (product g i)
unfolding product
products f g h i = record { first = omega arith; second = omega arith }

pub then_ends : (n m : ℕ) (s t : Step) → EndsWithin n s → EndsWithin m t → EndsWithin (n + m) (then s t)
unfolding then
then_ends n m (Add a b) (Add c d) (p, q) (x, y) = (near_sum p x, near_sum q y)
then_ends n m (Add a b) (Grow f g) h k = ends_cond (n + m) (stands a b) (Grow f g) Unknown k tt
then_ends n m (Add a b) (Shrink f g) h k = ends_cond (n + m) (stands a b) (Shrink f g) Unknown k tt
then_ends n m (Add a b) Unknown h k = tt
then_ends n m (Grow f g) (Add a b) h k = ends_cond (n + m) (stands a b) (Grow f g) Unknown h tt
then_ends n m (Grow f g) (Grow p q) h k = products f g p q
then_ends n m (Grow f g) (Shrink p q) h k = tt
then_ends n m (Grow f g) Unknown h k = tt
then_ends n m (Shrink f g) (Add a b) h k = ends_cond (n + m) (stands a b) (Shrink f g) Unknown h tt
then_ends n m (Shrink f g) (Grow p q) h k = tt
then_ends n m (Shrink f g) (Shrink p q) h k = products f g p q
then_ends n m (Shrink f g) Unknown h k = tt
then_ends n m Unknown t h k = tt

-- over a pick
widest : {f g h i : ℕ} → Factors f g × Factors h i → Factors (min f h) (max g i)
widest (p, q) = record { first = omega arith; second = omega arith }

one_fits : Factors 1 1
unfolding factor_limit
one_fits = record { first = omega arith; second = omega arith }

pub either_ends : (n : ℕ) (s t : Step) → EndsWithin n s → EndsWithin n t → EndsWithin n (either s t)
unfolding either
either_ends n (Add a b) (Add c d) (p, q) (x, y) = (near_min p x, near_max q y)
either_ends n (Add a b) (Grow f g) h k = ends_cond n (stands a b) (Grow (min 1 f) (max 1 g)) Unknown (widest (one_fits, k)) tt
either_ends n (Add a b) (Shrink f g) h k = ends_cond n (stands a b) (Shrink (min 1 f) (max 1 g)) Unknown (widest (one_fits, k)) tt
either_ends n (Add a b) Unknown h k = tt
either_ends n (Grow f g) (Add a b) h k = ends_cond n (stands a b) (Grow (min f 1) (max g 1)) Unknown (widest (h, one_fits)) tt
either_ends n (Grow f g) (Grow p q) h k = widest (h, k)
either_ends n (Grow f g) (Shrink p q) h k = tt
either_ends n (Grow f g) Unknown h k = tt
either_ends n (Shrink f g) (Add a b) h k = ends_cond n (stands a b) (Shrink (min f 1) (max g 1)) Unknown (widest (h, one_fits)) tt
either_ends n (Shrink f g) (Grow p q) h k = tt
either_ends n (Shrink f g) (Shrink p q) h k = widest (h, k)
either_ends n (Shrink f g) Unknown h k = tt
either_ends n Unknown t h k = tt

-- a row
pub change_ends : (c : Change) → FineChange c → EndsWithin 1 (change_step c)
unfolding change_step factor_limit
change_ends (Change.Add c) h = let k : Near 1 (pos c) = omega ints in (k, k)
change_ends (Change.Sub c) h = let k : Near 1 (neg_ℤ (pos c)) = omega (ints, neg_parts (pos c)) in (k, k)
change_ends (Change.Mul c) (l, h) = ends_cond 1 (eqb c 1) still (Grow c c) (still_ends 1) (record { first = omega arith; second = omega arith })
change_ends (Change.Div c) (l, h) = ends_cond 1 (eqb c 1) still (Shrink c c) (still_ends 1) (record { first = omega arith; second = omega arith })

-- change 5: of a difference
near_difference : {n m : ℕ} {a b : ℤ} → Near n a → Near m b → Near (n + m) (a -ℤ b)
near_difference {n} {m} {a} {b} h k =
    omega (ints, minus_parts a b, neg_parts (pos (n * 1_000_000_000)), neg_parts (pos (m * 1_000_000_000)), neg_parts (pos ((n + m) * 1_000_000_000)))

pub difference_ends : (n m : ℕ) (s t : Step) → EndsWithin n s → EndsWithin m t → EndsWithin (n + m) (difference s t)
unfolding difference
difference_ends n m (Add a b) (Add c d) (p, q) (x, y) = (near_difference p y, near_difference q x)
difference_ends n m (Add a b) (Grow f g) p q = tt
difference_ends n m (Add a b) (Shrink f g) p q = tt
difference_ends n m (Add a b) Unknown p q = tt
difference_ends n m (Grow f g) t p q = tt
difference_ends n m (Shrink f g) t p q = tt
difference_ends n m Unknown t p q = tt
