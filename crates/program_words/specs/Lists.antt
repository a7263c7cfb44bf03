-- Lists of numbers as words: the prices of a run, `prices=A,C,P,T`, and the values of a store, with a separator between them.
use Rattle.std.specs.Prelude.{◌≡◌, Option, None, Some, Result, Ok, Err, cond, List, [], ◌∷◌, map, ℕ, suc, ◌-◌, ◌≤◌, min, eqb, ℤ, pos, negsuc, length, get_or, take, drop}
use Rattle.rules.specs.Text.{space, minus, split, starts_with, equals}
use Rattle.program_words.specs.Words.{value_in, is_value, kept_in}

-- `,`
abbrev pub comma : ℕ
comma = 44

-- `prices=`
abbrev pub prices_key : List ℕ
prices_key = 112 ∷ 114 ∷ 105 ∷ 99 ∷ 101 ∷ 115 ∷ 61 ∷ []

-- how many words are values, after n that are; or the index of the first that is none
unfoldable pub values_in : ℕ → List (List ℕ) → Result ℕ ℕ
values_in n [] = Ok n
values_in n (w ∷ ws) = cond (is_value (value_in w)) (values_in (suc n) ws) (Err n)

-- a store with the values of words from a place on, up to the first word that is none
unfoldable pub values_kept : List (List ℕ) → ℕ → List ℤ → List ℤ
values_kept [] at store = store
values_kept (w ∷ ws) at store = cond (is_value (value_in w)) (values_kept ws (suc at) (kept_in (value_in w) store at)) store

-- a text without the space that ends it
unfoldable pub until_space : List ℕ → List ℕ
until_space s = cond (eqb (get_or s (length s - 1) 0) space) (take (length s - 1) s) s

-- the words that end a line: none of an empty text, and a space may stand after the last
unfoldable pub line_words : List ℕ → List (List ℕ)
line_words s = cond (eqb (length s) 0) [] (split space (until_space s))

-- the words of one word with commas between them: none of `-`
unfoldable pub comma_words : List ℕ → List (List ℕ)
comma_words w = cond (equals (minus ∷ []) w) [] (split comma w)

-- a number as a price: 16 refuses 0
unfoldable pub price_of : ℤ → ℕ
price_of (pos n) = n
price_of (negsuc n) = 0

-- how many prices are lent, five for more; or the index of the first word that is no number
abbrev pub lent_count : Result ℕ ℕ → Result ℕ ℕ
lent_count (Ok n) = Ok (min n 5)
lent_count (Err i) = Err i

-- of words
abbrev pub count_by : List (List ℕ) → Result ℕ ℕ
count_by ws = lent_count (values_in 0 ws)

-- those of a first word that lends prices
abbrev pub some_lent : Result ℕ ℕ → Result (Option ℕ) ℕ
some_lent (Ok n) = Ok (Some n)
some_lent (Err i) = Err i

-- what a first word says of the prices
unfoldable pub lent_by : List ℕ → Result (Option ℕ) ℕ
lent_by word = cond (starts_with prices_key word) (some_lent (count_by (split comma (drop 7 word)))) (Ok None)

-- at most five
abbrev pub FewLent : Result (Option ℕ) ℕ → Type 0
FewLent (Ok None) = Unit {0}
FewLent (Ok (Some n)) = n ≤ 5
FewLent (Err i) = Unit {0}

-- the first five prices of words, and ones where there are fewer
unfoldable pub prices_by : List (List ℕ) → List ℕ
prices_by ws = map price_of (values_kept ws 0 (pos 1 ∷ pos 1 ∷ pos 1 ∷ pos 1 ∷ pos 1 ∷ []))

-- the prices after a first word
unfoldable pub prices_lent : List ℕ → List ℕ → List ℕ
prices_lent word prices = cond (starts_with prices_key word) (prices_by (split comma (drop 7 word))) prices

-- what is said of the prices, and the five
pub record LentAs (lent : Result (Option ℕ) ℕ) (prices : List ℕ) (r : Result (Option ℕ) ℕ) (new : List ℕ) : Type 0 where
  pub said : r ≡ lent
  pub kept : new ≡ prices
  pub few : FewLent r
  pub five : length new ≡ 5

-- what is said of the prices of a list, and the five
pub record ListLent (lent : Result ℕ ℕ) (prices : List ℕ) (r : Result ℕ ℕ) (new : List ℕ) : Type 0 where
  pub said : r ≡ lent
  pub kept : new ≡ prices
  pub few : FewLent (some_lent r)
  pub five : length new ≡ 5
