-- Where a refusal points, and how a line of a file is found and shown.
use Rattle.std.specs.Prelude.{◌≡◌, Bool, cond, ◌&&◌, List, [], ◌∷◌, ◌++◌, map, ℕ, zero, suc, ◌+◌, ◌≤◌, min, leb, eqb, length, take, drop}
use Rattle.explain_margin.specs.declared.place.PlaceKind.{PlaceKind}
use Rattle.explain_margin.specs.declared.place.PlaceKind.TheVariants.{Line, Row, Neither}
use Rattle.explain_margin.specs.declared.place.LinePlace.{LinePlace}
use Rattle.explain_margin.specs.declared.place.LinePlace.TheVariants.{At, Missing}

-- between two numbers
abbrev pub within : ℕ → ℕ → ℕ → Bool
within lo hi q = leb lo q && leb q hi

-- the place of 3 to 7 and 17 is a line, that of 8 to 13 and 19 a row
abbrev pub place_kind : ℕ → PlaceKind
place_kind q = cond (within 3 7 q) Line (cond (eqb q 17) Line (cond (within 8 13 q) Row (cond (eqb q 19) Row Neither)))

-- line k of these lines, from 0, the first of which begins at byte `at`, an LF between two; or there is none
unfoldable pub line_from : ℕ → List (List ℕ) → ℕ → LinePlace
line_from at [] k = Missing
line_from at (l ∷ ls) zero = At at (at + length l)
line_from at (l ∷ ls) (suc k) = line_from (at + length l + 1) ls k

-- a line stands in its file
abbrev pub StandsIn : List ℕ → LinePlace → Type 0
StandsIn file (At a e) = (a ≤ e) × (e ≤ length file)
StandsIn file Missing = Unit {0}

-- plain ASCII as it is, any other byte as `?`
abbrev pub shown_byte : ℕ → ℕ
shown_byte b = cond (within 32 126 b) b 63

-- a text is shown at the front, as far as there is room
pub record ShownAs (text old new : List ℕ) (n : ℕ) : Type 0 where
  pub count : n ≡ min (length text) (length old)
  pub shown : new ≡ map shown_byte (take n text) ++ drop n old
