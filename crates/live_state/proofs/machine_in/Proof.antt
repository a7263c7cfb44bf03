-- `live_state::machine_in` meets its contract. Assumes nothing.
use mathlib.Core.Path.{◌≡◌, refl}
use Rattle.rules_live.specs.LiveState.{at}
use Rattle.live_state.proofs.Reading.{given_most}
use borrow.Author.Rules.{rules}
use native.Mathlib.Omega.{arith}
use Rattle.live_state.proofs.machine_in.Statement.{statement}
use Rattle.live_state.proofs.machine_in.Tie as tie

returns : tie.Need-returns
returns c = rw (c.status_in.ensures, c.given.ensures) refl

pub machine_in_spec : {M : Type 1} → statement M
machine_in_spec =
    tie.close
    (tie.spec
    (λ c. search rules) (λ c. search rules) (λ c. search rules) (λ c. search rules) (λ c κs. search rules)
    (λ c. let p = c.requires in omega (arith, p.1, p.2, c.given.ensures, given_most (at c.args.state.now 0) c.args.q))
    (λ c κs. search rules)
    returns)
