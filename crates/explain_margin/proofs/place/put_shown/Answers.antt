-- `place::put_shown` meets its contract.
use native.Mathlib.Omega.{arith}
use mathlib.Core.Path.{◌≡◌, refl, sym}
use Rattle.explain_margin.proofs.Laws.{shown_more}
use Rattle.explain_margin.proofs.place.put_shown.Goals as goal

pub loop-i-preserved : goal.loop-i-preserved
loop-i-preserved c =
    shown_more _ _ _ _ _ (omega (arith, c.min-n.ensures)) (omega (arith, c.min-n.ensures)) c.loop-i.invariant c.shown.ensures

pub returns : goal.returns
returns c =
    let l = c.loop-i in
    let same : l.i ≡ c.min-n.result = omega arith in
    record { count = c.min-n.ensures; shown = rw (sym same) l.invariant }
