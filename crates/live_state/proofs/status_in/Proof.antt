-- `live_state::status_in` meets its contract. Assumes nothing.
use Rattle.live_state.proofs.Reading.{status_waits, status_going, status_ended, status_range}
use borrow.Author.Rules.{rules}
use native.Mathlib.Omega.{arith}
use Rattle.live_state.proofs.status_in.Statement.{statement}
use Rattle.live_state.proofs.status_in.Tie as tie

pub status_in_spec : {M : Type 1} → statement M
status_in_spec =
    tie.close
    (tie.spec
    (λ c. status_waits _ _ c.if-status-eq-WAITS.true)
    (λ c. status_going _ _ c.if-status-eq-WAITS.false c.if-status-le-FULL.true)
    (λ c. status_ended _ _ c.if-status-eq-ENDED.true)
    (λ c. status_range _ _ c.if-status-le-FULL.false c.if-status-eq-ENDED.false))
