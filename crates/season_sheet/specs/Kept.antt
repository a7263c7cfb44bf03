-- The names of an input, as code keeps them.
use Rattle.std.specs.Prelude.{◌≡◌, cond, ◌&&◌, List, [], ℕ, ◌+◌, ◌*◌, ◌<◌, min, leb, length, get_or, take, drop}
use Rattle.rules.specs.Text.{lf, split}
use Rattle.rules_season.specs.Season.{good_name}

-- after an input: line `at` is open, the last one, or 65 lines are closed; of each of the first 65 lines, the first 256 bytes
pub record NamesKept (input : List ℕ) (at : ℕ) (names lengths : List ℕ) : Type 0 where
  pub long : length names ≡ 16_640
  pub room : length lengths ≡ 66
  pub last : at + 1 ≡ min 66 (length (split lf input))
  pub size : (k : ℕ) → k < 65 → k < length (split lf input) → get_or lengths k 0 ≡ min 256 (length (get_or (split lf input) k []))
  pub line : (k : ℕ) → k < 65 → k < length (split lf input) → take (get_or lengths k 0) (drop (256 * k) names) ≡ take 256 (get_or (split lf input) k [])

-- how many names there are, 0 for "no name or more than 64"
unfoldable pub listed : List (List ℕ) → ℕ
listed ns = cond (leb 1 (length ns) && leb (length ns) 64) (length ns) 0

-- the bytes of a name that are to be opened: all, or none of a name that does not open
pub record Opened (name bytes : List ℕ) (r : ℕ) : Type 0 where
  pub whole : bytes ≡ cond (good_name name) name []
  pub count : r ≡ length (cond (good_name name) name [])
