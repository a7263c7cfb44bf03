-- Ranges of 64 bits, and how large their ends are.
use Rattle.std.specs.Prelude.{ℤ, pos, neg_ℤ, ◌≤ℤ◌}
use Rattle.rules.specs.Ranges.{Range, Sort, rising, falling, same, differ}
use Rattle.analysis_intervals.specs.declared.comparisons.WideInterval.{WideInterval}

-- a range in the code, of 64 bits
abbrev pub wide_range : WideInterval → Range
wide_range w = record { lo = w.lo; hi = w.hi }

-- as small as a difference of two numbers of 32 bits
pub record Short (z : ℤ) : Type 0 where
  pub low : neg_ℤ (pos 4_294_967_296) ≤ℤ z
  pub high : z ≤ℤ pos 4_294_967_296

-- a range that no turn has moved
pub record Unmoved (w : WideInterval) : Type 0 where
  pub low : Short w.lo
  pub high : Short w.hi

-- E does not lie past the end that it is taken from
abbrev pub EdgeWithin : Sort → Range → ℤ → Type 0
EdgeWithin rising n e = e ≤ℤ n.hi
EdgeWithin falling n e = n.lo ≤ℤ e
EdgeWithin same n e = Unit {0}
EdgeWithin differ n e = Unit {0}
