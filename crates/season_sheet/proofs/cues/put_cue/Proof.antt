-- `season_sheet::cues::put_cue` meets its contract. Assumes nothing.
use mathlib.Core.Path.{sym, ap, ◌∙◌}
use native.Mathlib.Omega.{arith}
use borrow.Author.Rules.{rules}
use Rattle.season_sheet.specs.Fired.{fired_by}
use Rattle.season_sheet.proofs.CuesLaws.{put_none, put_one}
use Rattle.season_sheet.proofs.cues.put_cue.Statement.{statement}
use Rattle.season_sheet.proofs.cues.put_cue.Tie as tie

returns : tie.Need-returns-in-Nothing
returns c = (λ text w old h l. put_none h (sym (ap fired_by c.in-Nothing.is) ∙ c.cue_in-row.ensures text), omega arith)

returns_2 : tie.Need-returns-in-Cue
returns_2 c = (λ text w old h l. put_one h l (sym (ap fired_by c.in-Cue.is) ∙ c.cue_in-row.ensures text), omega arith)

pub put_cue_spec : {M : Type 1} → statement M
put_cue_spec = tie.close (tie.spec
    (λ c κs. search rules) (λ c. search rules) (λ c. search rules) (λ c. search rules)
    (λ c. search rules) (λ c. search rules)
    returns
    (λ c. search rules)
    returns_2)
