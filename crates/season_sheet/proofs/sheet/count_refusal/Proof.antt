-- `season_sheet::sheet::count_refusal` meets its contract. Assumes nothing.
use borrow.Author.Rules.{rules}
use native.Mathlib.Omega.{arith}
use Rattle.season_sheet.proofs.SheetLaws.{counted, not_counted}
use Rattle.season_sheet.proofs.sheet.count_refusal.Statement.{statement}
use Rattle.season_sheet.proofs.sheet.count_refusal.Tie as tie

returns : tie.Need-returns-then-q-lt21
returns c = counted _ _ c.requires.0 c.if-q-lt21.true

returns_2 : tie.Need-returns-else-q-lt21
returns_2 c = not_counted _ _ c.requires.0 c.if-q-lt21.false

pub count_refusal_spec : {M : Type 1} → statement M
count_refusal_spec = tie.close (tie.spec
    (λ c. search rules) (λ c. search rules)
    (λ c. omega (arith, c.requires.1 c.args.number c.if-q-lt21.true))
    (λ c. search rules) (λ c. search rules)
    returns
    returns_2)
