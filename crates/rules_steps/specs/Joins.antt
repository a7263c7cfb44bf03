-- A step, and two steps joined: "In sequence" and "Over a pick".
use Rattle.std.specs.Prelude.{Bool, cond, ◌&&◌, ℕ, ◌*◌, min, max, ℤ, pos, ◌+ℤ◌}
use Rattle.ints.specs.Ints.{eq_z, min_z, max_z}
use Rattle.rules_steps.specs.declared.Step.{Step}
use Rattle.rules_steps.specs.declared.Step.TheVariants.{Add, Grow, Shrink, Unknown}

-- Add[0,0], the standing step
abbrev pub still : Step
still = Add (pos 0) (pos 0)

-- whether ends a and b make the standing step
abbrev pub stands : ℤ → ℤ → Bool
stands a b = eq_z a (pos 0) && eq_z b (pos 0)

-- "A factor above 2,000,000,001 counts as that number"
unfoldable pub factor_limit : ℕ
factor_limit = 2_000_000_001

-- "Grow ends multiplied, Shrink likewise"
unfoldable pub product : ℕ → ℕ → ℕ
product f g = min (f * g) factor_limit

-- "In sequence": Add ends are summed, factors multiplied; "Add[0,0] is neutral except that Unknown stays Unknown; anything else is Unknown"
unfoldable pub then : Step → Step → Step
then (Add a b) (Add c d) = Add (a +ℤ c) (b +ℤ d)
then (Add a b) (Grow f g) = cond (stands a b) (Grow f g) Unknown
then (Add a b) (Shrink f g) = cond (stands a b) (Shrink f g) Unknown
then (Add a b) Unknown = Unknown
then (Grow f g) (Add a b) = cond (stands a b) (Grow f g) Unknown
then (Grow f g) (Grow h i) = Grow (product f h) (product g i)
then (Grow f g) (Shrink h i) = Unknown
then (Grow f g) Unknown = Unknown
then (Shrink f g) (Add a b) = cond (stands a b) (Shrink f g) Unknown
then (Shrink f g) (Grow h i) = Unknown
then (Shrink f g) (Shrink h i) = Shrink (product f h) (product g i)
then (Shrink f g) Unknown = Unknown
then Unknown t = Unknown

-- "Over a pick: two of one kind give the smaller first end and the larger second; Add[0,0] with Grow or Shrink counts as factor 1; other mixtures are Unknown"
unfoldable pub either : Step → Step → Step
either (Add a b) (Add c d) = Add (min_z a c) (max_z b d)
either (Add a b) (Grow f g) = cond (stands a b) (Grow (min 1 f) (max 1 g)) Unknown
either (Add a b) (Shrink f g) = cond (stands a b) (Shrink (min 1 f) (max 1 g)) Unknown
either (Add a b) Unknown = Unknown
either (Grow f g) (Add a b) = cond (stands a b) (Grow (min f 1) (max g 1)) Unknown
either (Grow f g) (Grow h i) = Grow (min f h) (max g i)
either (Grow f g) (Shrink h i) = Unknown
either (Grow f g) Unknown = Unknown
either (Shrink f g) (Add a b) = cond (stands a b) (Shrink (min f 1) (max g 1)) Unknown
either (Shrink f g) (Grow h i) = Unknown
either (Shrink f g) (Shrink h i) = Shrink (min f h) (max g i)
either (Shrink f g) Unknown = Unknown
either Unknown t = Unknown
