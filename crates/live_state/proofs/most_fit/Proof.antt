-- `live_state::most_fit` meets its contract. Assumes nothing.
use borrow.Author.Tests.{le-leb, lt-leb}
use borrow.Author.Rules.{rules}
use native.Mathlib.Omega.{arith}
use Rattle.live_state.proofs.most_fit.Statement.{statement}
use Rattle.live_state.proofs.most_fit.Tie as tie

pub most_fit_spec : {M : Type 1} → statement M
most_fit_spec =
    tie.close
    (tie.spec
    (λ c. rw (le-leb _ _ c.if-turns-most.true, le-leb _ _ c.if-most-all.true))
    (λ c. rw (le-leb _ _ c.if-turns-most.true, lt-leb _ _ c.if-most-all.false))
    (λ c. rw (lt-leb _ _ c.if-turns-most.false)))
