-- `live_state::all_fit` meets its contract. Assumes nothing.
use borrow.Author.Tests.{le-leb, lt-leb}
use borrow.Author.Rules.{rules}
use native.Mathlib.Omega.{arith}
use Rattle.live_state.proofs.all_fit.Statement.{statement}
use Rattle.live_state.proofs.all_fit.Tie as tie

pub all_fit_spec : {M : Type 1} → statement M
all_fit_spec = tie.close (tie.spec (λ c. rw (le-leb _ _ c.if-turns-all.true)) (λ c. rw (lt-leb _ _ c.if-turns-all.false)))
