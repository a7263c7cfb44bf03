-- `season_sheet::sheet::if_fresh` meets its contract. Assumes nothing.
use native.Mathlib.Omega.{arith}
use Rattle.season_sheet.proofs.sheet.if_fresh.Statement.{statement}
use Rattle.season_sheet.proofs.sheet.if_fresh.Tie as tie

pub if_fresh_spec : {M : Type 1} → statement M
if_fresh_spec = tie.close (tie.spec (λ c. (simp c.if-fresh.true, omega arith)) (λ c. (simp c.if-fresh.false, omega arith)))
