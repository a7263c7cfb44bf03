-- The definitions at a few words. Assumes nothing.
use mathlib.Core.Path.{◌≡◌, refl}
use mathlib.Core.List.{[], ◌∷◌}
use lib.IntN.{pos, neg_ℤ}
use Rattle.rules.specs.Text.{prefixed, split, starts_with, equals, is_digit, all_digits, value_from, is_natural}
use Rattle.program_words.specs.Words.{sized, number_in, value_in}
use Rattle.std.specs.Prelude.{None, Some, Ok, Err}
use Rattle.program_words.specs.Lists.{price_of, lent_by, prices_by, prices_lent, values_in, values_kept, until_space, line_words, comma_words}

-- `prices=2,30,1,5` lends four, `prices=2,-3` two, of which the second is lent as 0; `script` says nothing
four : (lent_by (112 ∷ 114 ∷ 105 ∷ 99 ∷ 101 ∷ 115 ∷ 61 ∷ 50 ∷ 44 ∷ 51 ∷ 48 ∷ 44 ∷ 49 ∷ 44 ∷ 53 ∷ []) ≡ Ok (Some 4))
    × (prices_lent (112 ∷ 114 ∷ 105 ∷ 99 ∷ 101 ∷ 115 ∷ 61 ∷ 50 ∷ 44 ∷ 51 ∷ 48 ∷ 44 ∷ 49 ∷ 44 ∷ 53 ∷ []) [] ≡ 2 ∷ 30 ∷ 1 ∷ 5 ∷ 1 ∷ [])
unfolding lent_by prices_lent prices_by price_of values_in values_kept split prefixed starts_with value_in number_in sized is_natural all_digits is_digit value_from
four = (refl, refl)

few : (lent_by (112 ∷ 114 ∷ 105 ∷ 99 ∷ 101 ∷ 115 ∷ 61 ∷ 50 ∷ 44 ∷ 45 ∷ 51 ∷ []) ≡ Ok (Some 2))
    × (prices_lent (112 ∷ 114 ∷ 105 ∷ 99 ∷ 101 ∷ 115 ∷ 61 ∷ 50 ∷ 44 ∷ 45 ∷ 51 ∷ []) [] ≡ 2 ∷ 0 ∷ 1 ∷ 1 ∷ 1 ∷ [])
unfolding lent_by prices_lent prices_by price_of values_in values_kept split prefixed starts_with value_in number_in sized is_natural all_digits is_digit value_from
few = (refl, refl)

script : lent_by (115 ∷ 99 ∷ 114 ∷ 105 ∷ 112 ∷ 116 ∷ []) ≡ Ok None
unfolding lent_by starts_with
script = refl

-- `7,-2` has two values, `7,` one and a wrong one, and `-` none; `7 ` of a line has one
values : (values_in 0 (comma_words (55 ∷ 44 ∷ 45 ∷ 50 ∷ [])) ≡ Ok 2) × (values_kept (comma_words (55 ∷ 44 ∷ 45 ∷ 50 ∷ [])) 0 (pos 0 ∷ pos 0 ∷ pos 0 ∷ []) ≡ pos 7 ∷ neg_ℤ (pos 2) ∷ pos 0 ∷ [])
unfolding comma_words equals values_in values_kept split prefixed value_in number_in sized is_natural all_digits is_digit value_from
values = (refl, refl)

wrong : (values_in 0 (comma_words (55 ∷ 44 ∷ [])) ≡ Err 1) × (values_in 0 (comma_words (45 ∷ [])) ≡ Ok 0) × (values_in 0 (line_words (55 ∷ 32 ∷ [])) ≡ Ok 1)
unfolding comma_words line_words until_space equals values_in split prefixed value_in number_in sized is_natural all_digits is_digit value_from
wrong = (refl, refl, refl)
