-- `expressions::operators::within` meets its contract. Assumes nothing.
use borrow.Author.Rules.{rules}
use mathlib.Core.Path.{◌≡◌}
use mathlib.Core.Bool.{true, false}
use lib.IntN.{negsuc}
use lib.Signed.{le_z}
use mir.Facts.{to_z-of_z}
use Rattle.rules.specs.Values.{lowest, highest}
use Rattle.expressions.proofs.operators.within.Statement.{statement}
use Rattle.expressions.proofs.operators.within.Tie as tie

returns : tie.Need-returns-then-z
unfolding lowest highest
returns c =
    let f = c.ranges.z in
    let a : le_z (negsuc 999999999) c.args.z ≡ true = simp (to_z-of_z f) at c.if-z.true in
    simp (to_z-of_z f, a)

returns_2 : tie.Need-returns-else-z
unfolding lowest highest
returns_2 c =
    let f = c.ranges.z in
    let a : le_z (negsuc 999999999) c.args.z ≡ false = simp (to_z-of_z f) at c.if-z.false in
    simp (to_z-of_z f, a)

pub within_spec : {M : Type 1} → statement M
within_spec = tie.close (tie.spec (λ c. search rules) returns returns_2)
