use mir.Syntax.{w32}
use mir.Val.{SFits}
use Rattle.ints.proofs.Parts.{ints, abs_parts}
use mir.Facts.{to_z-of_z}
use borrow.Author.Rules.{sfits_of, rules}
use lib.IntN.{pos}
use lib.Signed.{◌≤ℤ◌}
use Rattle.rules.specs.Values.{highest}
use Rattle.rules.proofs.ReadLegal.{amount_yes, number_yes}
use Rattle.reading.proofs.words.amount.Statement.{statement}
use Rattle.reading.proofs.words.amount.Tie as tie

cast-result : tie.Need-overflow_cast-result
cast-result c = let r : SFits w32 c.number_of.result = sfits_of c.number_of.type_inv in
    let (a, b) = amount_yes 0 highest c.args.w c.requires in
    let (k, _) = number_yes (pos 0) highest c.args.w c.requires in
    let h : pos 0 ≤ℤ c.number_of.result = rw c.number_of.ensures k in
    rw (to_z-of_z r) (omega ints, record { fits = omega (ints, abs_parts c.number_of.result) })

returns : tie.Need-returns
returns c = let r : SFits w32 c.number_of.result = sfits_of c.number_of.type_inv in
    rw (to_z-of_z r, c.number_of.ensures)

pub amount_spec : {M : Type 1} → statement M
amount_spec = tie.close (tie.spec (λ c κs. search rules) cast-result returns)
