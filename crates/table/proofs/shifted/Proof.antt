use mir.Facts.{to_z-of_z}
use lib.IntN.{pos}
use Rattle.ints.proofs.Parts.{ints, neg_parts}
use Rattle.ints.proofs.Shifts.{Shifted, shifted}
use Rattle.table.proofs.shifted.Statement.{statement}
use Rattle.table.proofs.shifted.Tie as tie

wide : (c : tie.Start) → Shifted 2_147_483_648 c.args.k
wide c = let n = neg_parts (pos 1_000_000_000) in let m = neg_parts (pos 2_147_483_648) in let h = c.requires in shifted _ _ (omega ints) (omega (ints, n, m)) (omega (ints, n, m))

cast-result-2 : tie.Need-overflow_cast-result-2
cast-result-2 c = let h = wide c in simp (to_z-of_z c.ranges.k, to_z-of_z h.wide, to_z-of_z h.more) (h.whole, record { fits = omega ints })

pub shifted_spec : {M : Type 1} → statement M
shifted_spec =
    tie.close
    (tie.spec
    (λ c. simp (to_z-of_z c.ranges.k) (wide c).wide)
    (λ c. let h = wide c in simp (to_z-of_z c.ranges.k, to_z-of_z h.wide) h.more)
    cast-result-2
    (λ c. let h = wide c in simp (to_z-of_z c.ranges.k, to_z-of_z h.wide, to_z-of_z h.more) h.back))
