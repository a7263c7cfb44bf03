-- The first variables are widened.
use mathlib.Core.Path.{◌≡◌, sym, ap, ◌∙◌}
use borrow.Author.Rules.{rules}
use native.Mathlib.Omega.{arith}
use Rattle.analysis_ranges.proofs.Envs.{up_none, up_here, up_put, up_all}
use Rattle.analysis_ranges.proofs.Widening.{wide_at, wide_far}
use Rattle.analysis_ranges.proofs.transfer.widen.Goals as goal

pub loop-v-init : goal.loop-v-init
loop-v-init c = (search rules, sym (up_none _ _))

pub loop-v-preserved : goal.loop-v-preserved
loop-v-preserved c =
    let k = c.loop-v.invariant.1 in
    let old = c.interval_at-old.ensures ∙ ap (λ ρ. ρ c.loop-v.v) k ∙ up_here _ _ _ in
    (search rules, c.put.ensures ∙ up_put _ _ _ _ _ k (wide_at _ _ _ _ _ _ _ _ c.chosen.ensures old c.contains.ensures))

pub returns : goal.returns
returns c =
    let e : c.loop-v.v ≡ 16 = omega arith in
    c.loop-v.invariant.1 ∙ rw e (up_all _ _ 16 (wide_far _ (search rules) _ _ c.requires _))
