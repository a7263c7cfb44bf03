-- `figures::put_ticks` meets its contract.
use mathlib.Core.Path.{◌≡◌, refl, ap, ◌∙◌}
use mathlib.Core.List.{List, []}
use Prim.Native.Nat.{ℕ, ◌+◌}
use lib.ListN.{get_or, set}
use native.Mathlib.Numerals.{add-one}
use native.Mathlib.Omega.{arith}
use Rattle.explain_margin.specs.Figures.{ticks_beside, put_ticks}
use Rattle.explain_margin.proofs.figures.put_ticks.Goals as goal

none : (own : List ℕ) (t : List (List ℕ)) → t ≡ put_ticks own 0 t
unfolding put_ticks
none own t = refl

-- one row more
more : (own : List ℕ) (i : ℕ) (t u : List (List ℕ)) → u ≡ put_ticks own i t → set u i (ticks_beside (get_or u i []) (get_or own i 0)) ≡ put_ticks own (i + 1) t
unfolding put_ticks
more own i t u h = rw (add-one, h)

pub loop-i-init : goal.loop-i-init
loop-i-init c = (c.requires.1, none _ _)

pub loop-i-preserved : goal.loop-i-preserved
loop-i-preserved c = (c.put_own.ensures.1, c.put_own.ensures.0 ∙ more _ c.loop-i.i _ c.loop-i.figures c.loop-i.invariant.1)

pub returns : goal.returns
returns c =
    let e : c.loop-i.i ≡ 256 = omega arith in
    (c.loop-i.invariant.1 ∙ ap (λ n. put_ticks c.args.own.now n c.args.figures.now) e, c.loop-i.invariant.0)
