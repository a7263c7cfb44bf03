use mir.Facts.{to_z-of_z}
use native.Mathlib.Omega.{arith}
use borrow.Author.Rules.{rules}
use Rattle.table.proofs.Numbers.{off_stands}
use Rattle.table.proofs.off_row.Statement.{statement}
use Rattle.table.proofs.off_row.Tie as tie

returns : tie.Need-returns
returns c =
    let s = c in
    off_stands _ _ _ _ _ _ _ _ c.first.ensures c.comparison_code.ensures (omega (arith, s.ranges.w))
    (simp (to_z-of_z s.ranges.k) at c.shifted.ensures)

pub off_row_spec : {M : Type 1} → statement M
off_row_spec = tie.close (tie.spec (λ c κs. search rules) (λ c κs. search rules) (λ c κs. search rules) returns)
