-- Picks that a program finds itself: `picks=random:SEED`, drawn from a seed, and `picks=ask`.
use Rattle.std.specs.Prelude.{Option, None, Some, cond, List, [], ◌∷◌, ℕ, zero, suc, ◌+◌, ◌*◌, ◌/◌, ◌%◌, drop}
use Rattle.rules.specs.Text.{starts_with, equals}
use Rattle.program_words.specs.Words.{number_in}
use Rattle.program_words.specs.declared.picks.PicksBy.{PicksBy}
use Rattle.program_words.specs.declared.picks.PicksBy.TheVariants.{Word, Seed, Ask}

-- `picks=ask`
abbrev pub ask_word : List ℕ
ask_word = 112 ∷ 105 ∷ 99 ∷ 107 ∷ 115 ∷ 61 ∷ 97 ∷ 115 ∷ 107 ∷ []

-- `picks=random:`
abbrev pub random_key : List ℕ
random_key = 112 ∷ 105 ∷ 99 ∷ 107 ∷ 115 ∷ 61 ∷ 114 ∷ 97 ∷ 110 ∷ 100 ∷ 111 ∷ 109 ∷ 58 ∷ []

-- a seed, if it is a number
abbrev pub seed_of : Option ℕ → Option PicksBy
seed_of (Some n) = Some (Seed n)
seed_of None = None

-- how a word says the picks
unfoldable pub picks_by : List ℕ → Option PicksBy
picks_by w = cond (equals ask_word w) (Some Ask) (cond (starts_with random_key w) (seed_of (number_in (drop 13 w))) (Some Word))

-- the generator: the next number, below 2^31
unfoldable pub next_drawn : ℕ → ℕ
next_drawn x = (x * 1_103_515_245 + 12_345) % 2_147_483_648

-- so many picks after the number x: of each next number the highest of its 31 bits
unfoldable pub drawn : ℕ → ℕ → List ℕ
drawn x zero = []
drawn x (suc n) = next_drawn x / 1_073_741_824 ∷ drawn (next_drawn x) n

-- the picks of a seed
abbrev pub seed_picks : ℕ → ℕ → List ℕ
seed_picks seed n = drawn (seed % 2_147_483_648) n
