-- The first variables are joined.
use mathlib.Core.Path.{◌≡◌, sym, ◌∙◌}
use borrow.Author.Rules.{rules}
use native.Mathlib.Omega.{arith}
use lib.ListN.{length}
use Rattle.analysis_ranges.proofs.Envs.{up_none, up_put, up_all, join_at, join_far}
use Rattle.analysis_ranges.proofs.transfer.joined.Goals as goal

pub loop-v-init : goal.loop-v-init
loop-v-init c = (search rules, sym (up_none _ _))

pub loop-v-preserved : goal.loop-v-preserved
loop-v-preserved c =
    let k = c.loop-v.invariant.1 in
    (search rules, c.put.ensures ∙ up_put _ _ _ _ _ k (join_at _ _ _ _ _ _ c.joined.ensures c.interval_at.ensures c.interval_at-in-loop-v.ensures))

pub returns : goal.returns
returns c =
    let e : c.loop-v.v ≡ 16 = omega arith in
    let la : length c.args.a ≡ 16 = search rules in
    let lb : length c.args.b ≡ 16 = search rules in
    c.loop-v.invariant.1 ∙ rw e (up_all _ _ 16 (join_far c.args.a c.args.b la lb))
