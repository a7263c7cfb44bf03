use mir.Facts.{to_z-of_z}
use mathlib.Core.Path.{◌≡◌}
use Prim.Native.Nat.{ℕ, ◌<◌, min}
use lib.IntN.{ℤ, pos, nat_abs, ◌+ℤ◌}
use Rattle.rules_steps.specs.Ends.{Near}
use Rattle.ints.proofs.Parts.{ints, neg_parts}
use Rattle.ints.proofs.Shifts.{Shifted, shifted}
use Rattle.analysis_lines.proofs.shifted.Goals as goal

wide : (a : ℤ) → Near 512 a → Shifted 1_099_511_627_776 a
wide a h = let n = neg_parts (pos 512_000_000_000) in let m = neg_parts (pos 1_099_511_627_776) in shifted _ _ (omega ints) (omega (ints, n, m)) (omega (ints, n, m))

under : (x : ℕ) → x < 2_199_023_255_552 → min x 2_199_023_255_552 ≡ x
under x h = omega ints

pub overflow_add-result : goal.overflow_add-result
overflow_add-result c = simp (to_z-of_z c.ranges.a) (wide c.args.a c.requires).more

pub overflow_cast-result : goal.overflow_cast-result
overflow_cast-result c = let h = wide c.args.a c.requires in simp (to_z-of_z c.ranges.a, to_z-of_z h.more) (h.whole, record { fits = omega ints })

pub returns : goal.returns
returns c =
    let h = wide c.args.a c.requires in
    simp (to_z-of_z c.ranges.a, to_z-of_z h.more) (rw (under (nat_abs (c.args.a +ℤ pos 1_099_511_627_776)) (omega (ints, h.few))) h.back)
