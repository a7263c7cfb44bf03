-- `season_sheet::sheet::with_refused` meets its contract. Assumes nothing.
use mathlib.Core.Path.{refl}
use borrow.Author.Rules.{rules}
use Rattle.season_sheet.proofs.SheetLaws.{refusing}
use Rattle.season_sheet.proofs.sheet.with_refused.Statement.{statement}
use Rattle.season_sheet.proofs.sheet.with_refused.Tie as tie

returns : tie.Need-returns
returns c = refusing _ _ _ _ _ refl refl refl refl refl refl refl c.count_refusal.ensures

pub with_refused_spec : {M : Type 1} → statement M
with_refused_spec = tie.close (tie.spec (λ c κs. (c.requires.1, c.requires.2)) (λ c. search rules) returns)
