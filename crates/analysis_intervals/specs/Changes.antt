-- What a row and a pick make of one range.
use Rattle.std.specs.Prelude.{pos}
use Rattle.ints.specs.Ints.{min_z, max_z, clamp}
use Rattle.rules.specs.declared.Change.{Change}
use Rattle.rules.specs.Values.{lowest, highest, applied}
use Rattle.rules.specs.Ranges.{Range}

-- the smaller low end, the larger high end
abbrev pub join_range : Range → Range → Range
join_range r s = record { lo = min_z r.lo s.lo; hi = max_z r.hi s.hi }

-- widened by 0
abbrev pub with_zero : Range → Range
with_zero r = record { lo = min_z r.lo (pos 0); hi = max_z r.hi (pos 0) }

-- an arithmetic row applied to both ends
unfoldable pub changed_range : Change → Range → Range
changed_range c r = record { lo = clamp lowest highest (applied c r.lo); hi = clamp lowest highest (applied c r.hi) }
