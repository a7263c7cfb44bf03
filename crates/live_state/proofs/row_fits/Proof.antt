-- `live_state::row_fits` meets its contract. Assumes nothing.
use Rattle.live_state.proofs.StateLaws.{fits_going, fits_ended, fits_past, fits_waits, fits_full, fits_range}
use borrow.Author.Rules.{rules}
use native.Mathlib.Omega.{arith}
use Rattle.live_state.proofs.row_fits.Statement.{statement}
use Rattle.live_state.proofs.row_fits.Tie as tie

returns : tie.Need-returns-then-status-eq-GOING
returns c script g = fits_going g _ _ c.if-status-eq-GOING.true

returns_2 : tie.Need-returns-then-status-eq-ENDED
returns_2 c script g = fits_ended g _ _ c.if-status-eq-ENDED.true

returns_3 : tie.Need-returns-then-count-i
returns_3 c script g = fits_past g _ _ c.if-status-eq-GOING.false c.if-status-eq-ENDED.false c.if-count-i.true

returns-4 : tie.Need-returns-then-status-eq-WAITS
returns-4 c script g = fits_waits g _ (omega (arith, c.if-count-i.false)) _ c.kind_at.ensures _ _ c.if-status-eq-WAITS.true c.is_pick.ensures

returns-5 : tie.Need-returns-then-status-eq-FULL
returns-5 c script g = fits_full g _ (omega (arith, c.if-count-i.false)) _ c.kind_at-then-status-eq-FULL.ensures _ _ c.if-status-eq-FULL.true c.is_cue.ensures

returns-6 : tie.Need-returns
returns-6 c script g = fits_range g _ _ c.if-status-eq-GOING.false c.if-status-eq-WAITS.false c.if-status-eq-FULL.false c.if-status-eq-ENDED.false (omega (arith, c.if-count-i.false))

pub row_fits_spec : {M : Type 1} → statement M
row_fits_spec =
    tie.close
    (tie.spec
    returns
    returns_2
    returns_3
    (λ c κs. search rules)
    (λ c κs. search rules)
    returns-4
    (λ c κs. search rules)
    (λ c κs. search rules)
    returns-5
    returns-6)
