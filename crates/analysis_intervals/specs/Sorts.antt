-- The sorts of tests, as answers.
use Rattle.std.specs.Prelude.{Bool, true, false}
use Rattle.rules.specs.Ranges.{Sort, rising, falling, same, differ}

-- < <=
abbrev pub is_rising : Sort → Bool
is_rising rising = true
is_rising falling = false
is_rising same = false
is_rising differ = false

-- > >=
abbrev pub is_falling : Sort → Bool
is_falling rising = false
is_falling falling = true
is_falling same = false
is_falling differ = false

-- the sort of !=
abbrev pub is_differ : Sort → Bool
is_differ rising = false
is_differ falling = false
is_differ same = false
is_differ differ = true
