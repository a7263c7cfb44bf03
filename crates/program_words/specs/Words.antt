-- The words of a person at the desk: numbers, values of the store, prices, an allowance, picks. A number is written as in a script.
use Rattle.std.specs.Prelude.{◌≡◌, Bool, true, false, not, cond, ◌&&◌, List, [], ◌∷◌, ℕ, ◌-◌, leb, ltb, eqb, ℤ, pos, neg_ℤ, length, set, Option, None, Some}
use Rattle.rules.specs.Text.{minus, equals, is_digit, all_digits, value_from, is_natural}

-- the value of a digit, or 10
unfoldable pub digit_of : ℕ → ℕ
digit_of b = cond (is_digit b) (b - 48) 10

-- n, if it has 64 bits
unfoldable pub sized : ℕ → Option ℕ
sized n = cond (leb n 18_446_744_073_709_551_615) (Some n) None

-- the number that digits spell
unfoldable pub spelled_in : List ℕ → Option ℕ
spelled_in w = cond (all_digits w) (sized (value_from 0 w)) None

-- the number that a word is
unfoldable pub number_in : List ℕ → Option ℕ
number_in w = cond (is_natural w) (sized (value_from 0 w)) None

-- a number of any size: `-` stands only before a non-zero one
unfoldable pub is_number : List ℕ → Bool
is_number [] = false
is_number (b ∷ w) = cond (eqb b minus) (not (equals (48 ∷ []) w) && is_natural w) (is_natural (b ∷ w))

-- a number as a value of 32 bits
abbrev pub upward_of : Option ℕ → Option ℤ
upward_of (Some n) = cond (ltb n 2_147_483_648) (Some (pos n)) None
upward_of None = None

-- the same under `-`, which stands only before a non-zero number
abbrev pub downward_of : Option ℕ → Option ℤ
downward_of (Some n) =
    cond (eqb n 0) None (cond (leb n 2_147_483_648) (Some (neg_ℤ (pos n))) None)
downward_of None = None

-- the value of the store that a word is
unfoldable pub value_in : List ℕ → Option ℤ
value_in [] = None
value_in (b ∷ w) = cond (eqb b minus) (downward_of (number_in w)) (upward_of (number_in (b ∷ w)))

-- a store with that value at a place, if there is one and the store has the place
abbrev pub kept_in : Option ℤ → List ℤ → ℕ → List ℤ
kept_in (Some x) store at = set store at x
kept_in None store at = store

-- whether there is one
abbrev pub is_value : Option ℤ → Bool
is_value (Some x) = true
is_value None = false

-- whether something is done
abbrev pub done_if : Bool → Option (Unit {0})
done_if true = Some tt
done_if false = None

-- `plan`
abbrev pub plan_word : List ℕ
plan_word = 112 ∷ 108 ∷ 97 ∷ 110 ∷ []

-- an allowance: the largest for `plan`, or a number
unfoldable pub allowance_in : List ℕ → Option ℕ
allowance_in w = cond (equals plan_word w) (Some 18_446_744_073_709_551_615) (number_in w)

-- `-`, which stands for no picks
unfoldable pub is_none : List ℕ → Bool
is_none w = equals (45 ∷ []) w

-- the number of a digit 0 or 1
abbrev pub bit_in : ℕ → Option ℕ
bit_in b = cond (leb (digit_of b) 1) (Some (digit_of b)) None

-- a word of 0 and 1
unfoldable pub all_bits : List ℕ → Bool
all_bits [] = true
all_bits (b ∷ w) = cond (leb (digit_of b) 1) (all_bits w) false

-- its numbers
unfoldable pub bits_of : List ℕ → List ℕ
bits_of [] = []
bits_of (b ∷ w) = digit_of b ∷ bits_of w

-- a word of picks: `-`, or 0 and 1, at least one
unfoldable pub is_picks : List ℕ → Bool
is_picks w = cond (is_none w) true (not (eqb (length w) 0) && all_bits w)

-- its picks
unfoldable pub picks_of : List ℕ → List ℕ
picks_of w = cond (is_none w) [] (bits_of w)

-- the numbers of a word of 0 and 1 are put; any other word is refused
pub record PutBits (word new : List ℕ) (r : Option (Unit {0})) : Type 0 where
  pub good : r ≡ done_if (all_bits word)
  pub put : r ≡ Some tt → new ≡ bits_of word

-- the picks of a word are put into as many bytes; any other word, or room of another size, is refused
pub record PutPicks (word old new : List ℕ) (r : Option (Unit {0})) : Type 0 where
  pub good : r ≡ done_if (is_picks word && eqb (length (picks_of word)) (length old))
  pub put : r ≡ Some tt → new ≡ picks_of word
