-- `live_state::left_fits` meets its contract. Assumes nothing.
use Rattle.live_state.proofs.StateLaws.{left_held, left_done}
use borrow.Author.Rules.{rules}
use native.Mathlib.Omega.{arith}
use Rattle.live_state.proofs.left_fits.Statement.{statement}
use Rattle.live_state.proofs.left_fits.Tie as tie

pub left_fits_spec : {M : Type 1} → statement M
left_fits_spec = tie.close (tie.spec (λ c κs. search rules) (λ c. left_held _ _ _ _ c.if-status-le-FULL.true c.dearest_of.ensures) (λ c. left_done _ _ _ (omega (arith, c.if-status-le-FULL.false))))
