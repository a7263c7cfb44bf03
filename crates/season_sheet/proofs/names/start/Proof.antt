-- `season_sheet::names::start` meets its contract. Assumes nothing.
use mathlib.Core.Path.{refl}
use Prim.Native.Nat.{ℕ}
use lib.ListN.{length-replicate}
use Rattle.season_sheet.proofs.NamesLaws.{kept_none}
use Rattle.season_sheet.proofs.names.start.Statement.{statement}
use Rattle.season_sheet.proofs.names.start.Tie as tie

pub start_spec : {M : Type 1} → statement M
start_spec = tie.close (tie.spec (λ c. kept_none _ _ (length-replicate {A = ℕ} 16_640 0) (length-replicate {A = ℕ} 66 0) refl))
