-- `live_state::phase_fits` meets its contract. Assumes nothing.
use Rattle.live_state.proofs.StateLaws.{phase_none, phase_held, phase_odd, phase_past, phase_at_lem}
use borrow.Author.Rules.{rules}
use native.Mathlib.Omega.{arith}
use Rattle.live_state.proofs.phase_fits.Statement.{statement}
use Rattle.live_state.proofs.phase_fits.Tie as tie

pub phase_fits_spec : {M : Type 1} → statement M
phase_fits_spec =
    tie.close
    (tie.spec
    (λ c script g. phase_none g _ _ _ c.if-due-eq0.true)
    (λ c script g. phase_held g _ _ _ c.if-due-eq0.false c.if-status-ne-GOING.true)
    (λ c script g. phase_odd g _ _ _ c.if-due-eq0.false c.if-status-ne-GOING.false c.if-due-ne-DUE.true)
    (λ c script g. phase_past g _ _ _ c.if-status-ne-GOING.false c.if-due-ne-DUE.false c.if-count-i.true)
    (λ c κs. (c.requires, omega (arith, c.if-count-i.false)))
    (λ c script g. phase_at_lem g _ _ _ c.if-status-ne-GOING.false c.if-due-ne-DUE.false (omega (arith, c.if-count-i.false)) _ (c.ends_loop.ensures script g)))
