-- The start moved by one turn, and the sorts of tests, as the code finds them.
use mathlib.Core.Path.{◌≡◌, refl, sym}
use mathlib.Core.Bool.{true, false, false≢true}
use Prim.Native.Nat.{ℕ, ◌≤◌}
use native.Mathlib.Nat.{mul-le-mul}
use lib.IntN.{ℤ, pos, ◌+ℤ◌, ◌*ℤ◌}
use mir.Syntax.{w64}
use mir.Val.{SFits}
use Rattle.ints.specs.Ints.{eq_z, floor_z}
use Rattle.ints.proofs.Parts.{P, N, ints, add_parts, neg_parts, lone}
use Rattle.ints.proofs.Scale.{mul_P, mul_N, floor_within}
use Rattle.rules_steps.specs.Ends.{Near}
use Rattle.rules_steps.specs.declared.Step.{Step}
use Rattle.rules_steps.specs.declared.Step.TheVariants.{Add, Grow, Shrink, Unknown}
use Rattle.rules.specs.Ranges.{Range, Sort, rising, falling, same, differ}
use Rattle.rules.specs.Questions.{has_figure}
use Rattle.analysis_intervals.specs.declared.comparisons.WideInterval.{WideInterval}
use Rattle.analysis_intervals.specs.Sorts.{is_differ}
use Rattle.analysis_intervals.specs.Wide.{Short, Unmoved}
use Rattle.analysis_intervals.proofs.Small.{small}
use Rattle.analysis_intervals.proofs.Sorts.{is_differ_lem}
use Rattle.analysis_turns.specs.Needs.{NearEnds, FirstTested, meeting}

pub ranged : (r : WideInterval) → Unmoved r → NearEnds r
ranged r u = record { low = (small _ u.low).far; high = (small _ u.high).far }

-- moved by one turn: a sum, a product, a quotient
pub record Summed (z a : ℤ) : Type 0 where
  pub a64 : SFits w64 a
  pub sum : SFits w64 (z +ℤ a)
  pub near : Near 1024 (z +ℤ a)

pub summed : (z a : ℤ) → Short z → Near 512 a → Summed z a
summed z a f h = let n = neg_parts (pos 4_294_967_296) in record { a64 = omega ints; sum = omega (ints, add_parts z a); near = omega (ints, add_parts z a) }

pub record Scaled (z : ℤ) (f : ℕ) : Type 0 where
  pub f64 : SFits w64 (pos f)
  pub product : SFits w64 (z *ℤ pos f)
  pub near : Near 5 (floor_z z f)

pub scaled : (z : ℤ) (f : ℕ) → Short z → f ≤ 2_000_000_001 → Scaled z f
scaled z f h l =
    let n = neg_parts (pos 4_294_967_296) in
    let p : P z ≤ 4_294_967_296 = omega (ints, lone z) in
    let q : N z ≤ 4_294_967_296 = omega (ints, lone z) in
    record {
      f64 = omega ints;
      product = omega (ints, mul_P z f, mul_N z f, mul-le-mul p l, mul-le-mul q l);
      near = omega (ints, floor_within z f);
    }

-- what the first test sees where no turn comes before it
pub unmoved_begun : (st : Step) (r : WideInterval) → Unmoved r → FirstTested st r
unmoved_begun (Add a b) r u = ranged r u
unmoved_begun (Grow f g) r u = tt
unmoved_begun (Shrink f g) r u = (small _ u.high).near
unmoved_begun Unknown r u = tt

-- question 12 of an Add, by the sort of test
pub add_other : (a b : ℤ) (d : Sort) (s r n : Range) (e : ℤ) → is_differ d ≡ false → true ≡ has_figure (Add a b) d s r n e
unfolding has_figure
add_other a b rising s r n e h = refl
add_other a b falling s r n e h = refl
add_other a b same s r n e h = refl
add_other a b differ s r n e h = absurd (false≢true (sym h))

pub add_uneven : (a b : ℤ) (d : Sort) (s r n : Range) (e : ℤ) → is_differ d ≡ true → eq_z a b ≡ false → false ≡ has_figure (Add a b) d s r n e
unfolding has_figure
add_uneven a b d s r n e h k = rw (is_differ_lem d h, k)

pub add_even : (a b : ℤ) (d : Sort) (s r n : Range) (e : ℤ) → is_differ d ≡ true → eq_z a b ≡ true → meeting a r n ≡ has_figure (Add a b) d s r n e
unfolding has_figure meeting
add_even a b d s r n e h k = rw (is_differ_lem d h, k)
