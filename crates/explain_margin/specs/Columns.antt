-- How wide the margin's columns are, and the bar.
use Rattle.std.specs.Prelude.{◌≡◌, cond, ℕ, ◌*◌, ◌/◌, ◌≤◌, min, max, eqb, length}
use Rattle.rules.specs.Report.{decimal}
use Rattle.explain_margin.specs.declared.columns.Widths.{Widths}

-- as many columns as the greatest figure has digits, and at least 5 for the heading
pub record ColumnOf (greatest r : ℕ) : Type 0 where
  pub width : r ≡ max 5 (length (decimal greatest))
  pub narrow : r ≤ 20

-- no figure has more than 20 digits
pub record Narrow (w : Widths) : Type 0 where
  pub turns : w.turns ≤ 20
  pub total : w.total ≤ 20
  pub ticks : w.ticks ≤ 20

-- the share of a part, no more than all of it, where the whole is `of`; rounded down; 0 of nothing
abbrev pub share_of : ℕ → ℕ → ℕ → ℕ
share_of part whole of = cond (eqb whole 0) 0 (min part whole * of / whole)
