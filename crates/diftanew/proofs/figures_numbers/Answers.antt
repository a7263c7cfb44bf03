-- `diftanew::figures_numbers` meets its contract. Assumes nothing.
use mathlib.Core.Path.{◌≡◌, refl}
use native.Mathlib.Omega.{arith}
use lib.ListN.{length}
use borrow.Author.Rules.{rules}
use Rattle.diftanew.proofs.Laid.{lined_none, lined_length, lined_more, lined_all}
use Rattle.diftanew.proofs.figures_numbers.Goals as goal

pub loop-k-init : goal.loop-k-init
loop-k-init c = lined_none _ _ _ refl refl

pub put_line-requires : goal.put_line-requires
put_line-requires c =
    let l = c.loop-k in
    let i = c.loop-k-test.true in
    let m = c.requires.0 in
    (omega (arith, i, m), lined_length _ _ l.k l.a (omega (arith, i, m)) l.invariant)

pub loop-k-preserved : goal.loop-k-preserved
loop-k-preserved c =
    let l = c.loop-k in
    let i = c.loop-k-test.true in
    let m = c.requires.0 in
    let long : length c.args.lines ≡ 16 = search rules in
    rw c.put_line.ensures (lined_more _ _ l.k l.a (omega (arith, i, m)) (omega (arith, i, m)) (c.requires.1 l.k i) l.invariant)

pub returns : goal.returns
returns c =
    let l = c.loop-k in
    lined_all _ _ l.k c.args.f.loops l.a (omega (arith, c.loop-k-test.false, l.auto.k-end)) (omega (arith, c.requires.0, l.auto.k-end)) l.invariant
