-- `diftanew::put_counts` meets its contract. Assumes nothing.
use mathlib.Core.Path.{◌≡◌, refl}
use Prim.Native.Nat.{min}
use native.Mathlib.Numerals.{add-one}
use native.Mathlib.Omega.{arith}
use Rattle.diftanew.specs.Numbers.{loop_numbers}
use Rattle.diftanew.proofs.put_counts.Goals as goal

pub loop-k-init : goal.loop-k-init
unfolding loop_numbers
loop-k-init c = refl

pub loop-k-preserved : goal.loop-k-preserved
unfolding loop_numbers
loop-k-preserved c = rw (add-one c.loop-k.k, c.loop-k.invariant) refl

pub returns : goal.returns
returns c = let e : c.loop-k.k ≡ min c.args.loops 16 = omega (arith, c.loop-k-test.false, c.loop-k.auto.k-end, c.min-k-end.ensures) in rw (← e) c.loop-k.invariant
