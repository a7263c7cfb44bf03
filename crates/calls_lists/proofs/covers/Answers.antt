-- `calls_lists::covers` meets its contract. Assumes nothing.
use mathlib.Core.Path.{◌≡◌, sym, ◌∙◌}
use Prim.Native.Nat.{ℕ, zero, suc, ◌+◌, ◌≤◌}
use native.Mathlib.Omega.{arith}
use lib.Dec.{eqb}
use borrow.Author.Tests.{eq-eqb, ne_eqb}
use Rattle.rules_frames.specs.Frames.{total}
use Rattle.calls_lists.proofs.Sums.{sum_next, sum_within, sum_all}
use Rattle.calls_lists.proofs.covers.Goals as goal

pub loop-next-init : goal.loop-next-init
unfolding total
loop-next-init c = omega arith

pub returns-then-left-next : goal.returns-then-left-next
returns-then-left-next c =
    let l = c.args.lengths.now in
    let i = c.loop-next.next-index in
    sym (ne_eqb (total l) c.args.n λ (e : total l ≡ c.args.n). omega (arith, c.if-left-next.true, c.loop-next.invariant, sum_within l i c.loop-next-test.true))

pub loop-next-preserved : goal.loop-next-preserved
loop-next-preserved c =
    let l = c.args.lengths.now in
    let i = c.loop-next.next-index in
    omega (arith, c.if-left-next.false, c.loop-next.invariant, sum_next l i c.loop-next-test.true)

pub returns : goal.returns
returns c =
    let l = c.args.lengths.now in
    let e : total l + c.loop-next.left ≡ c.args.n = omega (arith, c.loop-next.invariant, sum_all l c.loop-next.next-index c.loop-next-test.false) in
    by c.loop-next.left (total l) c.args.n e
  where
    by : (a b n : ℕ) → b + a ≡ n → eqb a 0 ≡ eqb b n
    by zero b n e = sym (eq-eqb b n (omega arith))
    by (suc a) b n e = ne_eqb (suc a) 0 (λ (h : suc a ≡ 0). omega arith) ∙ sym (ne_eqb b n (λ (h : b ≡ n). omega arith))
