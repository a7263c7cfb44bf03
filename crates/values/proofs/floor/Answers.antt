use Rattle.std.proofs.Common.{◌≡◌, ◌∙◌, ℕ, refl, arith}
use borrow.Author.Rules.{sfits_of}
use lib.IntN.{ℤ, pos, negsuc}
use mir.Facts.{to_z-of_z}
use mir.ValLaws.{to_z_pos}
use mir.Syntax.{w64}
use mir.Val.{SFits}
use Rattle.std.specs.Int.{int_div_euclid}
use Rattle.ints.specs.Ints.{floor_z}
use Rattle.values.proofs.floor.Goals as goal

-- std's quotient with a remainder not below 0 is the quotient rounded down
rounded_down : (z : ℤ) (k : ℕ) → int_div_euclid z (pos k) ≡ floor_z z k
rounded_down (pos a) k = refl
rounded_down (negsuc a) k = refl

pub returns : goal.returns
returns c =
    let r : SFits w64 c.div_euclid.result = sfits_of c.div_euclid.type_inv in
    let e : c.div_euclid.result ≡ int_div_euclid c.args.z (pos c.args.k) = simp (to_z-of_z c.ranges.z, to_z_pos w64 c.args.k (omega (arith, c.requires.1))) at c.div_euclid.ensures in
    rw (to_z-of_z r) (e ∙ rounded_down c.args.z c.args.k)
