-- What one loop's figure says.
use Rattle.std.specs.Prelude.{◌≡◌, ℕ, Result, Ok, Err}
use Rattle.rules.specs.Trips.{Trip, turns_of}
use Rattle.rules.specs.Verdicts.{passed, refused}
use Rattle.rules.specs.Questions.{of_trip}

-- a trip's figure: its turns if it passed, else the number of its refusal
abbrev pub FigureOf : Trip → Result ℕ ℕ → Type 0
FigureOf τ (Ok n) = ((i : ℕ) → of_trip i τ ≡ passed) × (n ≡ turns_of τ)
FigureOf τ (Err k) = (i : ℕ) → of_trip i τ ≡ refused k i
