use native.Mathlib.Omega.{arith}
use mathlib.Core.Path.{refl, ap, ◌∙◌}
use Prim.Native.Nat.{◌+◌, ◌*◌}
use Rattle.analysis_ticks.specs.Capped.{capped}
use Rattle.analysis.proofs.Laws.{closed_is}
use Rattle.analysis.proofs.tallies.leave_pick.Goals as goal

pub closed-requires : goal.closed-requires
closed-requires c = (c.requires.1, c.requires.2, omega (arith, c.plus-ticks.ensures), omega (arith, c.times.ensures))

pub returns : goal.returns
returns c = λ ks ls os.
    let own = c.plus-ticks.ensures ∙ ap (λ m. capped (c.args.price + m)) c.max.ensures in
    closed_is own (c.times.ensures ∙ ap (λ z. capped (c.args.count * z)) own) refl (c.closed.ensures ks ls os)
