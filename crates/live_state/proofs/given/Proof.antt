-- `live_state::given` meets its contract. Assumes nothing.
use mathlib.Core.Path.{sym}
use Rattle.live_state.proofs.Reading.{given_held, given_done}
use borrow.Author.Rules.{rules}
use native.Mathlib.Omega.{arith}
use Rattle.live_state.proofs.given.Statement.{statement}
use Rattle.live_state.proofs.given.Tie as tie

pub given_spec : {M : Type 1} → statement M
given_spec = tie.close (tie.spec (λ c. sym (given_held _ _ c.if-status-le-FULL.true)) (λ c. sym (given_done _ _ c.if-status-le-FULL.false)))
