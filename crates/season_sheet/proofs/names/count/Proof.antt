-- `season_sheet::names::count` meets its contract. Assumes nothing.
use mathlib.Core.Path.{sym}
use native.Mathlib.Omega.{arith}
use borrow.Author.Rules.{rules}
use Rattle.rules_season.specs.Season.{names_of}
use Rattle.season_sheet.proofs.NamesLaws.{too_many, names_are, listed_none, listed_all}
use Rattle.season_sheet.proofs.names.count.Statement.{statement}
use Rattle.season_sheet.proofs.names.count.Tie as tie

returns : tie.Need-returns-then-at-ge-LINES
returns c = (λ input names h. sym (too_many input _ _ _ h c.if-at-ge-LINES.true), omega arith)

returns_2 : tie.Need-returns-then-n-gt-MOST
returns_2 c = (λ input names h. sym (listed_none (names_of input) (omega (arith, names_are input _ _ _ h c.if-at-ge-LINES.false, c.filled.ensures.0, c.if-n-gt-MOST.true))), omega arith)

returns_3 : tie.Need-returns
returns_3 c = (
  λ input names h.
      let n = names_are input _ _ _ h c.if-at-ge-LINES.false in
      omega (arith, listed_all (names_of input) (omega (arith, n, c.filled.ensures.0, c.if-n-gt-MOST.false)), n, c.filled.ensures.0),
  c.if-n-gt-MOST.false,
)

pub count_spec : {M : Type 1} → statement M
count_spec = tie.close (tie.spec returns (λ c. search rules) (λ c. search rules) (λ c κs. search rules) (λ c. omega (arith, c.filled.ensures.1)) returns_2 returns_3)
