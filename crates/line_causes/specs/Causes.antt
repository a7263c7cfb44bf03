-- The cause of a refusal by 3: read from the left, the first word of the line that is not what its place wants, and the byte where it breaks.
use Rattle.std.specs.Prelude.{Bool, true, false, cond, ◌&&◌, ◌||◌, List, [], ◌∷◌, ℕ, suc, ◌+◌, ◌-◌, leb, ltb, eqb, nat_eq, length, get_or, drop}
use Rattle.std.specs.List.{starts_with}
use Rattle.std.specs.Str.{bytes_eq}
use Rattle.rules.specs.Text.{space, split, is_digit}
use Rattle.rules.specs.File.{script_key, vars_key, range_key, rows_key, row_key}
use Rattle.line_causes.specs.Shapes.{fits, shape_of, first_word}
use Rattle.line_causes.specs.declared.shapes.Wanted.{Wanted}
use Rattle.line_causes.specs.declared.shapes.Wanted.TheVariants as wants
use Rattle.line_causes.specs.Breaks.{broken_at}
use Rattle.line_causes.specs.declared.Cause.{Cause}
use Rattle.line_causes.specs.declared.LineKind.{LineKind}
use Rattle.line_causes.specs.declared.LineKind.TheVariants.{Script, Vars, Range, Rows, Row}
use Rattle.line_causes.specs.declared.Fault.{Fault}
use Rattle.line_causes.specs.declared.Fault.TheVariants.{Nothing, Ended, Empty, Comment, ByteMark, Key, Space, SpaceAtEnd, Tab, Return, Foreign, Plus, Zero, Other, Broken, Missing, TooMany, NoLineFeed}

-- a fault at a byte of the line, and what is wanted there
abbrev pub cause_at : Fault → Wanted → ℕ → Cause
cause_at f w at = record { fault = f; wants = w; at = at }

-- what word k of a shape is to be
unfoldable pub wanted : List Wanted → ℕ → Wanted
wanted shape k = get_or shape k wants.Nothing

-- ---- a word that is not what is wanted
-- plain ASCII, no space
unfoldable pub is_plain : ℕ → Bool
is_plain b = leb 33 b && leb b 126

-- how many bytes stand before the first that is not plain
unfoldable pub to_odd : List ℕ → ℕ
to_odd [] = 0
to_odd (b ∷ s) = cond (is_plain b) (suc (to_odd s)) 0

-- a byte that is not plain
unfoldable pub odd_fault : ℕ → Fault
odd_fault b = cond (eqb b 9) Tab (cond (eqb b 13) Return Foreign)

-- `#` or `//`
unfoldable pub is_comment : List ℕ → Bool
is_comment t = starts_with nat_eq t (35 ∷ []) || starts_with nat_eq t (47 ∷ 47 ∷ [])

-- a 0 before another digit
unfoldable pub leads_zero : List ℕ → Bool
leads_zero t = starts_with nat_eq t (48 ∷ []) && is_digit (get_or t 1 0)

-- the same after `-` or `v`, and -0
unfoldable pub signed_zero : List ℕ → Bool
signed_zero t = bytes_eq t (45 ∷ 48 ∷ []) || ((starts_with nat_eq t (45 ∷ []) || starts_with nat_eq t (118 ∷ [])) && leads_zero (drop 1 t))

-- a number, a variable or an expression is wanted
unfoldable pub takes_number : Wanted → Bool
takes_number wants.Number = true
takes_number wants.One = true
takes_number wants.Variable = true
takes_number wants.Expression = true
takes_number w = false

-- an expression is wanted
abbrev pub wants_expression : Wanted → Bool
wants_expression wants.Expression = true
wants_expression w = false

-- no word is wanted
abbrev pub wants_nothing : Wanted → Bool
wants_nothing wants.Nothing = true
wants_nothing w = false

-- a word that is none: it has a `+` or a leading zero, or is no expression from some byte on, or is another word
unfoldable pub number_cause : Wanted → List ℕ → ℕ → Cause
number_cause w t at =
    cond (starts_with nat_eq t (43 ∷ [])) (cause_at Plus w at)
    (cond (leads_zero t) (cause_at Zero w at)
    (cond (signed_zero t) (cause_at Zero w (at + 1))
    (cond (wants_expression w) (cause_at Broken w (at + broken_at t))
    (cause_at Other w at))))

-- a plain word where another is wanted, or none
unfoldable pub plain_cause : Wanted → List ℕ → ℕ → Cause
plain_cause w t at = cond (is_comment t) (cause_at Comment w at) (cond (wants_nothing w) (cause_at TooMany w at) (cond (takes_number w) (number_cause w t at) (cause_at Other w at)))

-- no word: two spaces, or a space after the last word
unfoldable pub no_word : Wanted → ℕ → Bool → Cause
no_word w at last = cond last (cause_at SpaceAtEnd w (at - 1)) (cause_at Space w at)

-- a word that begins at byte `at`; whether it is the last
unfoldable pub word_cause : Wanted → List ℕ → ℕ → Bool → Cause
word_cause w t at last =
    cond (eqb (length t) 0) (no_word w at last)
    (cond (ltb (to_odd t) (length t)) (cause_at (odd_fault (get_or t (to_odd t) 0)) w (at + to_odd t))
    (plain_cause w t at))

-- ---- the words of a line
-- after the last word: one is missing, or the LF is, or nothing
unfoldable pub end_cause : List Wanted → ℕ → ℕ → Bool → Cause
end_cause shape k at lf = cond (ltb k (length shape)) (cause_at Missing (wanted shape k) at) (cond lf (cause_at Nothing wants.Nothing at) (cause_at NoLineFeed wants.Nothing at))

-- no further word
abbrev pub is_last : List (List ℕ) → Bool
is_last [] = true
is_last (t ∷ ts) = false

-- words, the first of which is word k of the line and begins at byte `at`
unfoldable pub cause_in : List Wanted → Bool → List (List ℕ) → ℕ → ℕ → Cause
cause_in shape lf [] k at = end_cause shape k (at - 1) lf
cause_in shape lf (t ∷ ts) k at =
    cond (fits (wanted shape k) t) (cause_in shape lf ts (suc k) (suc (at + length t)))
    (word_cause (wanted shape k) t at (is_last ts))

-- the words after the line's key
unfoldable pub words_cause : List Wanted → Bool → ℕ → List ℕ → Cause
words_cause shape lf from s = cond (eqb (length s) from) (cause_at Missing (wanted shape 0) from) (cause_in shape lf (split space (drop from s)) 0 from)

-- ---- the key
-- how many bytes of a text are those of the key
unfoldable pub agree : List ℕ → List ℕ → ℕ
agree [] s = 0
agree (k ∷ key) [] = 0
agree (k ∷ key) (b ∷ s) = cond (eqb b k) (suc (agree key s)) 0

-- a line without a byte: an empty line, or none at all
unfoldable pub empty_cause : Bool → Cause
empty_cause lf = cond lf (cause_at Empty wants.Nothing 0) (cause_at Ended wants.Nothing 0)

-- a line with another key: a byte order mark before it, a comment, a space or a tab before it, or other bytes from some byte on
unfoldable pub key_cause : List ℕ → Bool → List ℕ → Cause
key_cause key lf s =
    cond (eqb (length s) 0) (empty_cause lf)
    (cond (starts_with nat_eq s (239 ∷ 187 ∷ 191 ∷ [])) (cause_at ByteMark wants.Nothing 0)
    (cond (is_comment s) (cause_at Comment wants.Nothing 0)
    (cond (starts_with nat_eq s (32 ∷ [])) (cause_at Space wants.Nothing 0)
    (cond (starts_with nat_eq s (9 ∷ [])) (cause_at Tab wants.Nothing 0)
    (cause_at Key wants.Nothing (agree key s))))))

-- a line of a key and words of a shape
unfoldable pub keyed_cause : List ℕ → List Wanted → Bool → List ℕ → Cause
keyed_cause key shape lf s = cond (starts_with nat_eq s key) (words_cause shape lf (length key) s) (key_cause key lf s)

-- a line of its kind; whether an LF ends it
unfoldable pub cause_of : LineKind → Bool → List ℕ → Cause
cause_of Script lf s = keyed_cause script_key (wants.One ∷ []) lf s
cause_of Vars lf s = keyed_cause vars_key (wants.Number ∷ []) lf s
cause_of Range lf s = keyed_cause range_key (wants.Number ∷ wants.Number ∷ []) lf s
cause_of Rows lf s = keyed_cause rows_key (wants.Number ∷ []) lf s
cause_of Row lf s = keyed_cause row_key (shape_of (first_word (drop 4 s))) lf s
