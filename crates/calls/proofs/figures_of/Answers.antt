-- `calls::figures_of` meets its contract. Assumes nothing.
use borrow.Author.Rules.{rules}
use Rattle.calls.proofs.Tables.{analyse_asks}
use Rattle.calls.proofs.figures_of.Goals as goal

pub analyse-requires : goal.analyse-requires
analyse-requires c = analyse_asks _ _ _ _ c.requires.0 c.requires.1 (search rules)

pub returns : goal.returns
returns c = let g = c.requires.0 in (_, (c.analyse.ensures c.args.script.vars (g.legal, g.blank)).0)
