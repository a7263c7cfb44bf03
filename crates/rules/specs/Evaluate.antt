-- Expressions as code evaluates them over ranges: both ends at once, and whether a result went past ±L; and a run's result from such a value.
use Rattle.std.specs.Prelude.{false, not, cond, ◌&&◌, ◌||◌, ℕ, ℤ}
use Rattle.ints.specs.Ints.{min_z, max_z, clamp}
use Rattle.rules.specs.declared.Value.{Value}
use Rattle.rules.specs.declared.Operator.{Operator}
use Rattle.rules.specs.Expressions.{operate, Expr, meaning}
use Rattle.rules.specs.Values.{lowest, highest, in_limits, Store, Result, number, past}
use Rattle.rules.specs.Ranges.{Range, Env}

-- a range that nothing has gone past
abbrev pub not_past : ℤ → ℤ → Value
not_past lo hi = record { lo = lo; hi = hi; past = false }

-- the range of a value
abbrev pub range_in : Value → Range
range_in v = record { lo = v.lo; hi = v.hi }

-- the least of the four results on the ends, and the largest
unfoldable pub least : Operator → Range → Range → ℤ
least o r s = min_z (min_z (operate o r.lo s.lo) (operate o r.lo s.hi)) (min_z (operate o r.hi s.lo) (operate o r.hi s.hi))

-- the largest of the four
unfoldable pub largest : Operator → Range → Range → ℤ
largest o r s = max_z (max_z (operate o r.lo s.lo) (operate o r.lo s.hi)) (max_z (operate o r.hi s.lo) (operate o r.hi s.hi))

-- from a least to a largest result: clamped, and whether one is past ±L
unfoldable pub clamped : ℤ → ℤ → Value
clamped l m = record { lo = clamp lowest highest l; hi = clamp lowest highest m; past = not (in_limits l && in_limits m) }

-- an operator on two values
unfoldable pub combined : Operator → Value → Value → Value
combined o a b =
    let v = clamped (least o (range_in a) (range_in b)) (largest o (range_in a) (range_in b)) in
    record { lo = v.lo; hi = v.hi; past = a.past || b.past || v.past }

-- an expression
unfoldable pub evaluated : (ℕ → Value) → Expr → Value
evaluated f e = meaning (record { of_constant = λ k. not_past k k; of_operator = combined }) f e

-- with each variable's range, for the analysis
abbrev pub of_ranges : Env → ℕ → Value
of_ranges ρ w = not_past (ρ w).lo (ρ w).hi

-- with each variable's number, for the run
abbrev pub of_store : Store → ℕ → Value
of_store f w = not_past (f w) (f w)

-- the run's number
abbrev pub result_of : Value → Result
result_of v = cond v.past past (number v.lo)
