use borrow.Author.Rules.{rules}
use mir.Syntax.{w32}
use mir.Val.{SFits}
use mir.Facts.{to_z-of_z}
use lib.IntN.{pos, ◌-ℤ◌}
use Prim.Native.Nat.{ℕ, ◌<◌}
use Rattle.ints.proofs.Parts.{ints, minus_parts}
use Rattle.ints.proofs.Shifts.{Unshifted, unshifted}
use Rattle.table.proofs.constant.Statement.{statement}
use Rattle.table.proofs.constant.Tie as tie

-- made back, it fits 32 bits
narrow : (x : ℕ) → x < 4_294_967_296 → SFits w32 (pos x -ℤ pos 2_147_483_648)
narrow x h = omega (ints, minus_parts (pos x) (pos 2_147_483_648))

wide : (x : ℕ) → x < 4_294_967_296 → Unshifted 2_147_483_648 x
wide x h = unshifted _ _ (omega ints) (omega ints)

sub-result : tie.Need-overflow_sub-result
sub-result c = let h = wide c.args.x (search rules) in simp (to_z-of_z h.wide) h.less

cast-result-2 : tie.Need-overflow_cast-result-2
cast-result-2 c = let h = wide c.args.x (search rules) in simp (to_z-of_z h.wide, to_z-of_z h.less) (narrow c.args.x (search rules))

returns : tie.Need-returns
returns c = let h = wide c.args.x (search rules) in simp (to_z-of_z h.wide, to_z-of_z h.less, to_z-of_z (narrow c.args.x (search rules)))

pub constant_spec : {M : Type 1} → statement M
constant_spec = tie.close (tie.spec (λ c. search rules) sub-result cast-result-2 returns)
