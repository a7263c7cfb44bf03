-- One range stored.
use mir.Syntax.{w32}
use mir.Val.{SFits}
use mir.Facts.{to_z-of_z}
use Rattle.analysis_ranges.proofs.Envs.{env_set}
use borrow.Author.Rules.{rules}
use Rattle.analysis_ranges.proofs.transfer.put.Goals as goal

pub returns : goal.returns
returns c =
    let f0 : SFits w32 c.args.s.lo = search rules in
    let f1 : SFits w32 c.args.s.hi = search rules in
    rw (to_z-of_z f0, to_z-of_z f1) (env_set c.args.r.now c.args.v c.args.s.lo c.args.s.hi (search rules))
