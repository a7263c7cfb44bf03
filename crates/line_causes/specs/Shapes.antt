-- What a line's words are to be: a shape says it of each word.
use Rattle.std.specs.Prelude.{Bool, true, false, not, cond, ◌&&◌, ◌||◌, List, [], ◌∷◌, ℕ, eqb, nat_eq, take, drop}
use Rattle.std.specs.List.{starts_with}
use Rattle.std.specs.Str.{bytes_eq}
use Rattle.rules.specs.Text.{space}
use Rattle.rules.specs.Parse.{parse}
use Rattle.rules.specs.File.{asks_expr}
use Rattle.reading.specs.Words.{before}
use Rattle.program_words.specs.Words.{is_number}
use Rattle.line_causes.specs.declared.shapes.Wanted.{Wanted}
use Rattle.line_causes.specs.declared.shapes.Wanted.TheVariants.{Known, Name, Number, One, Variable, Comparison, Ordered, Expression, Step, Nothing}

-- `v` and a number that is not below 0
unfoldable pub is_variable : List ℕ → Bool
is_variable t = starts_with nat_eq t (118 ∷ []) && (not (starts_with nat_eq (drop 1 t) (45 ∷ [])) && is_number (drop 1 t))

-- < <= > >=
unfoldable pub is_ordered : List ℕ → Bool
is_ordered t = (bytes_eq t (60 ∷ []) || bytes_eq t (60 ∷ 61 ∷ [])) || (bytes_eq t (62 ∷ []) || bytes_eq t (62 ∷ 61 ∷ []))

-- the same, == and !=
unfoldable pub is_comparison : List ℕ → Bool
is_comparison t = is_ordered t || (bytes_eq t (61 ∷ 61 ∷ []) || bytes_eq t (33 ∷ 61 ∷ []))

-- add, sub, mul, div
unfoldable pub is_step : List ℕ → Bool
is_step t =
    (bytes_eq t (97 ∷ 100 ∷ 100 ∷ []) || bytes_eq t (115 ∷ 117 ∷ 98 ∷ []))
    || (bytes_eq t (109 ∷ 117 ∷ 108 ∷ []) || bytes_eq t (100 ∷ 105 ∷ 118 ∷ []))

-- pick, else, end
unfoldable pub is_bare : List ℕ → Bool
is_bare t = bytes_eq t (112 ∷ 105 ∷ 99 ∷ 107 ∷ []) || (bytes_eq t (101 ∷ 108 ∷ 115 ∷ 101 ∷ []) || bytes_eq t (101 ∷ 110 ∷ 100 ∷ []))

-- while, do
unfoldable pub is_test : List ℕ → Bool
is_test t = bytes_eq t (119 ∷ 104 ∷ 105 ∷ 108 ∷ 101 ∷ []) || bytes_eq t (100 ∷ 111 ∷ [])

-- whether question 3 has yes to a word as an expression
unfoldable pub is_expression : List ℕ → Bool
is_expression t = not (eqb (asks_expr 16 (parse t)) 3)

-- whether a word is what is wanted
unfoldable pub fits : Wanted → List ℕ → Bool
fits Known t = true
fits Name t = false
fits Number t = is_number t
fits One t = bytes_eq t (49 ∷ [])
fits Variable t = is_variable t
fits Comparison t = is_comparison t
fits Ordered t = is_ordered t
fits Expression t = is_expression t
fits Step t = is_step t
fits Nothing t = false

-- the shape of a row by its name: `set v0 X`; `add v0 C`; `pick`; `while v0 <= X`; `cue N`; `hold v0`; `off v0 v1 > C`; `for v0 X <= Y add C`
unfoldable pub shape_of : List ℕ → List Wanted
shape_of t =
    cond (is_step t) (Known ∷ Variable ∷ Number ∷ [])
    (cond (is_bare t) (Known ∷ [])
    (cond (is_test t) (Known ∷ Variable ∷ Comparison ∷ Expression ∷ [])
    (cond (bytes_eq t (115 ∷ 101 ∷ 116 ∷ [])) (Known ∷ Variable ∷ Expression ∷ [])
    (cond (bytes_eq t (99 ∷ 117 ∷ 101 ∷ [])) (Known ∷ Number ∷ [])
    (cond (bytes_eq t (104 ∷ 111 ∷ 108 ∷ 100 ∷ [])) (Known ∷ Variable ∷ [])
    (cond (bytes_eq t (111 ∷ 102 ∷ 102 ∷ [])) (Known ∷ Variable ∷ Variable ∷ Ordered ∷ Number ∷ [])
    (cond (bytes_eq t (102 ∷ 111 ∷ 114 ∷ [])) (Known ∷ Variable ∷ Expression ∷ Comparison ∷ Expression ∷ Step ∷ Number ∷ [])
    (Name ∷ []))))))))

-- the first word of a text
abbrev pub first_word : List ℕ → List ℕ
first_word s = take (before space s) s
