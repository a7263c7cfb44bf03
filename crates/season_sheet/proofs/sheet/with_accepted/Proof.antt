-- `season_sheet::sheet::with_accepted` meets its contract. Assumes nothing.
use mathlib.Core.Path.{refl, ap}
use Prim.Native.Nat.{◌+◌}
use borrow.Author.Rules.{rules}
use Rattle.season_sheet.proofs.SheetLaws.{accepting}
use Rattle.season_sheet.proofs.sheet.with_accepted.Statement.{statement}
use Rattle.season_sheet.proofs.sheet.with_accepted.Tie as tie

returns : tie.Need-returns
returns c =
    let s = c.args.sheet in
    accepting _ _ _ _ refl refl refl c.max-most.ensures (ap (λ n. s.groups + n) c.if_fresh-one.ensures.0) _ _ (ap (λ n. s.used + n) c.if_fresh-bytes.ensures.0) (ap (λ n. s.cued + n) c.if_fresh-numbers.ensures.0)

pub with_accepted_spec : {M : Type 1} → statement M
with_accepted_spec = tie.close (tie.spec
    (λ c κs. search rules) (λ c κs. search rules) (λ c κs. search rules) (λ c κs. search rules)
    (λ c. search rules) (λ c. search rules) (λ c. search rules) (λ c. search rules)
    (λ c. search rules)
    returns)
