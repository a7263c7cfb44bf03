use native.Mathlib.Omega.{arith}
use Rattle.rules.specs.Report.{gap}
use Rattle.rules_season.specs.Season.{refused_key}
use Rattle.season_sheet.proofs.Texts.{pair_short, refusal_line}
use Rattle.season_sheet.proofs.sheet.put_refusal.Goals as goal

pub put_pair-requires : goal.put_pair-requires
put_pair-requires c = omega (arith, pair_short refused_key gap 18 0)

pub returns : goal.returns
returns c = rw refusal_line c.put_pair.ensures
