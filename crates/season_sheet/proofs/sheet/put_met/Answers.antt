use native.Mathlib.Omega.{arith}
use mathlib.Core.List.{[], ◌∷◌, ◌++◌}
use Rattle.rules_season.specs.Season.{refused_word}
use Rattle.report.proofs.PiecesLaws.{wrote_nothing}
use Rattle.season_sheet.proofs.Texts.{pair_short, met_none, met_some}
use Rattle.season_sheet.proofs.sheet.put_met.Goals as goal

pub returns-then-n-eq0 : goal.returns-then-n-eq0
returns-then-n-eq0 c = rw (met_none c.args.number c.args.n c.if-n-eq0.true) (wrote_nothing _)

pub put_pair-requires : goal.put_pair-requires
put_pair-requires c = omega (arith, pair_short (refused_word ++ (45 ∷ [])) (61 ∷ []) c.args.number c.args.n)

pub returns : goal.returns
returns c = rw (met_some c.args.number c.args.n c.if-n-eq0.false) c.put_pair.ensures
