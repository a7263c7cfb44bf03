use Rattle.std.proofs.Common.{rules, ◌≡◌, ◌∙◌}
use mir.Facts.{to_z-of_z}
use mir.Syntax.{w32, w64}
use mir.Val.{SFits}
use Rattle.std.specs.Int.{int_max, int_min}
use lib.IntN.{pos, negsuc}
use Rattle.ints.proofs.Parts.{ints}
use Rattle.rules.specs.Values.{lowest, highest}
use Rattle.expressions.proofs.Wide.{clamp_is}
use Rattle.expressions.proofs.operators.clamp.Goals as goal

pub returns : goal.returns
unfolding lowest highest
returns c =
    let r = c.clamp.result in
    let f : SFits w64 r = search rules in
    let g : SFits w32 r = omega (ints, c.clamp.ensures.lower_bound, c.clamp.ensures.upper_bound) in
    let e : r ≡ int_max (negsuc 999_999_999) (int_min c.args.s (pos 1_000_000_000)) = simp (to_z-of_z c.ranges.s) at c.clamp.ensures.value in
    rw (to_z-of_z f, to_z-of_z g) (e ∙ clamp_is (negsuc 999_999_999) (pos 1_000_000_000) c.args.s)
