-- Whether a text names a variable of a set: a `v` and its number.
use Rattle.std.specs.Prelude.{Bool, true, not, ◌&&◌, List, [], ◌∷◌, ℕ, eqb}
use Rattle.expressions.specs.Leaves.{digit_value}

-- it names none
unfoldable pub kept : (ℕ → Bool) → List ℕ → Bool
kept f [] = true
kept f (b ∷ s) = not (eqb b 118 && f (digit_value 0 s)) && kept f s
