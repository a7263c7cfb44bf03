-- `calls_lists::part` meets its contract. Assumes nothing.
use mathlib.Core.Path.{◌≡◌, refl, ◌∙◌, ap}
use native.Mathlib.Omega.{arith}
use lib.ListN.{take}
use Rattle.rules_frames.specs.Frames.{total}
use Rattle.calls_lists.proofs.Sums.{sum_next, sum_within}
use Rattle.calls_lists.proofs.part.Goals as goal

pub loop-i-init : goal.loop-i-init
unfolding total
loop-i-init c = refl

pub overflow_add-from : goal.overflow_add-from
overflow_add-from c = let l = c.args.lengths.now in omega (arith, c.loop-i.invariant, c.requires.1, sum_within l c.loop-i.i (omega (arith, c.requires.0, c.loop-i-test.true)))

pub loop-i-preserved : goal.loop-i-preserved
loop-i-preserved c =
    let l = c.args.lengths.now in
    omega (arith, c.loop-i.invariant, sum_next l c.loop-i.i (omega (arith, c.requires.0, c.loop-i-test.true)))

pub overflow_add-result : goal.overflow_add-result
overflow_add-result c =
    let l = c.args.lengths.now in
    let e : c.loop-i.i ≡ c.args.k = omega (arith, c.loop-i.auto.i-end, c.loop-i-test.false) in
    omega (arith, c.loop-i.invariant, ap (λ n. total (take n l)) e, c.requires.1, sum_within l c.args.k c.requires.0)

pub returns : goal.returns
returns c =
    let l = c.args.lengths.now in
    let e : c.loop-i.i ≡ c.args.k = omega (arith, c.loop-i.auto.i-end, c.loop-i-test.false) in
    record { from = c.loop-i.invariant ∙ ap (λ n. total (take n l)) e; to = refl }
