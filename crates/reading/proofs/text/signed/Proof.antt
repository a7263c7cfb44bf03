use Rattle.expressions.proofs.LeavesLaws.{minus_fits, minus_is}
use mir.Syntax.{w32}
use mir.ValLaws.{to_z_pos, to_z-of_z}
use native.Mathlib.Omega.{arith}
use borrow.Author.Rules.{rules}
use Rattle.reading.proofs.text.signed.Statement.{statement}
use Rattle.reading.proofs.text.signed.Tie as tie

sub-result : tie.Need-overflow_sub-result
sub-result c = rw (minus_is _ c.requires) (minus_fits _ c.requires)

returns : tie.Need-returns-then-negative
returns c = rw (minus_is _ c.requires, c.if-negative.true) (to_z-of_z w32 _ (minus_fits _ c.requires))

returns_2 : tie.Need-returns-else-negative
returns_2 c = rw c.if-negative.false (to_z_pos w32 _ (omega arith))

pub signed_spec : {M : Type 1} → statement M
signed_spec = tie.close (tie.spec (λ c. search rules) sub-result returns returns_2)
