-- `season_sheet::names::opens` meets its contract. Assumes nothing.
use mathlib.Core.Path.{sym}
use borrow.Author.Rules.{rules}
use Rattle.season_sheet.proofs.NamesLaws.{empty_shut, long_shut, short_opens}
use Rattle.season_sheet.proofs.names.opens.Statement.{statement}
use Rattle.season_sheet.proofs.names.opens.Tie as tie

pub opens_spec : {M : Type 1} → statement M
opens_spec =
    tie.close
    (tie.spec
    (λ c. empty_shut _ c.if-name-eq0.true)
    (λ c. sym (long_shut _ c.if-name-gt-LONGEST.true))
    (λ c κs. search rules)
    (λ c. short_opens _ c.if-name-eq0.false c.if-name-gt-LONGEST.false c.holds_zero.ensures))
