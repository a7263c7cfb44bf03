-- `season_sheet::sheet::empty` meets its contract. Assumes nothing.
use mathlib.Core.Path.{refl}
use Prim.Native.Nat.{ℕ}
use lib.ListN.{get_or-replicate, length-replicate}
use Rattle.season_sheet.proofs.SheetLaws.{no_file}
use Rattle.season_sheet.proofs.sheet.empty.Statement.{statement}
use Rattle.season_sheet.proofs.sheet.empty.Tie as tie

returns : tie.Need-returns
returns c = (no_file refl refl (λ q l. get_or-replicate 21 q 0 0 l) refl refl refl, refl, refl, refl, length-replicate {A = ℕ} 21 0)

pub empty_spec : {M : Type 1} → statement M
empty_spec = tie.close (tie.spec returns)
