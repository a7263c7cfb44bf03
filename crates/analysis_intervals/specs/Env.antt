-- The array of ranges as the function of the rules.
use Rattle.std.specs.Prelude.{List, [], ℕ, ℤ, pos, get_or}
use Rattle.rules.specs.Ranges.{Range, Env}
use Rattle.analysis_intervals.specs.declared.Interval.{Interval}

-- a variable's low end
abbrev pub low_of : List (List ℤ) → ℕ → ℤ
low_of r v = get_or (get_or r v []) 0 (pos 0)

-- a variable's high end
abbrev pub high_of : List (List ℤ) → ℕ → ℤ
high_of r v = get_or (get_or r v []) 1 (pos 0)

-- the ranges that an array holds
unfoldable pub env_of : List (List ℤ) → Env
env_of r w = record { lo = low_of r w; hi = high_of r w }

-- an interval of the code as a range
abbrev pub range_of : Interval → Range
range_of s = record { lo = s.lo; hi = s.hi }
