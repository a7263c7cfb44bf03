-- What the analysis found of an accepted script can be put.
use mathlib.Core.Path.{refl}
use Rattle.std.proofs.Common.{rules}
use Rattle.explain.proofs.explain_rows.Goals as goal

pub analyse-requires : goal.analyse-requires
analyse-requires g c =
    let p = c.requires in
    ((_, (p.legal, p.blank)), p.rows, p.held, p.prices, search rules, p.short, p.written)

pub put_lines-requires : goal.put_lines-requires
put_lines-requires g c =
    let k = (c.in-Ok.ensures c.args.vars (c.requires.legal, c.requires.blank)).0 in
    (k.loops refl, k.long refl, search rules)
