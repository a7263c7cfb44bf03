-- The first of a list of prices.
use Rattle.std.specs.Prelude.{Bool, false, ◌&&◌, List, [], ◌∷◌, ℕ, leb}

-- it is there, and 1 to 1,000
abbrev pub fine_first : List ℕ → Bool
fine_first [] = false
fine_first (p ∷ ps) = leb 1 p && leb p 1_000
