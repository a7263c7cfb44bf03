-- at has been multiplied k times, and the fuel of the definition is not spent.
use mathlib.Core.Path.{◌≡◌, refl, ◌∙◌}
use Prim.Native.Nat.{ℕ, zero, suc, ◌+◌, ◌*◌, ◌-◌, ◌≤◌, ◌<◌}
use native.Mathlib.Nat.{mul-le-mul_left, mul-le-mul}
use native.Mathlib.Omega.{arith}
use borrow.Author.Tests.{le-leb, lt-leb}
use Rattle.rules.specs.Turns.{powers}
use Rattle.analysis_turns.proofs.figures.powers.Goals as goal

-- a number past e counts no more
over : (n at e f : ℕ) → e < at → powers n at e f ≡ 0
unfolding powers
over zero at e f h = refl
over (suc n) at e f h = rw (lt-leb at e h)

first : (t e f : ℕ) → powers (suc e) t e f ≡ 0 + powers (suc e - 0) t e f
first t e f = let n : suc e - 0 ≡ suc e = omega arith in rw n (omega arith)

-- one that is not counts one, and its product after it
more : (k at e f : ℕ) → at ≤ e → k < at → k + powers (suc e - k) at e f ≡ (k + 1) + powers (suc e - (k + 1)) (at * f) e f
unfolding powers
more k at e f h l =
    let n : suc e - k ≡ suc (suc e - (k + 1)) = omega arith in
    rw (n, le-leb at e h) (omega arith)

record Turn (at f : ℕ) : Type 0 where
  twice : at * 2 ≤ at * f
  fits : at * f ≤ 5_000_000_000 * 2_000_000_001

turn : {at e f : ℕ} → at ≤ e → e ≤ 5_000_000_000 → 2 ≤ f → f ≤ 2_000_000_001 → Turn at f
turn {at} l e h k = let m : at ≤ 5_000_000_000 = omega arith in record { twice = mul-le-mul_left at h; fits = mul-le-mul m k }

pub loop-at-init : goal.loop-at-init
loop-at-init c = (first _ _ _, omega arith)

pub overflow_mul-at : goal.overflow_mul-at
overflow_mul-at c = let h = turn c.loop-at-test.true c.requires.1 c.requires.2 c.requires.3 in omega arith

pub loop-at-preserved : goal.loop-at-preserved
loop-at-preserved c =
    let h = turn c.loop-at-test.true c.requires.1 c.requires.2 c.requires.3 in
    (c.loop-at.invariant.0 ∙ more _ _ _ _ c.loop-at-test.true c.loop-at.invariant.1, omega arith)

pub returns : goal.returns
returns c = omega (arith, c.loop-at.invariant.0, over (suc c.args.e - c.loop-at.k) c.loop-at.at c.args.e c.args.f c.loop-at-test.false)
