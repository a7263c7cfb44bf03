-- Expressions: how their texts are read, and what they mean in ranges and runs, computed by the definitions.
use mathlib.Core.Path.{◌≡◌, refl}
use mathlib.Core.Bool.{false}
use mathlib.Core.List.{List, [], ◌∷◌}
use Prim.Native.Nat.{ℕ}
use lib.IntN.{pos, neg_ℤ}
use Rattle.ints.specs.Ints.{min_z, max_z, clamp}
use Rattle.rules.specs.declared.Comparison.TheVariants.{Less}
use Rattle.rules.specs.declared.Change.{Change}
use Rattle.rules.specs.declared.Ending.{Ending}
use Rattle.rules.specs.declared.Operator.TheVariants.{Add, Sub, Mul}
use Rattle.rules.specs.Expressions.{Expr, constant, variable, group, apply, operate, meaning}
use Rattle.rules.specs.Values.{lowest, highest, choose, number, past, limited, operated, value, applied, compares, tried, decide}
use Rattle.rules.specs.Text.{equals, is_digit, all_digits, value_from, is_natural, is_negative, is_variable, comparison_word, block_word, plain_word, word_of}
use Rattle.rules.specs.Parse.{Parsed, parsed, shapeless, then_parse, is_mark, up_to_mark, from_mark, atom, ahead, after_term, after_factor, close, factor_of, expression, read_expression, at_end, parse, depth, operators}
use Rattle.rules.specs.Blocks.{RowKind, End, For, view_of, with_last, snoc, in_front, loop_head, plain_row, closes, built_row, build}
use Rattle.rules.specs.Ranges.{spread, bounds}
use Rattle.rules.specs.Figures.{ones}
use Rattle.rules.specs.Run.{prepend, bind, closing, charge, write, result, exec, iter, starting, turning, enter, run}
use Rattle.rules.specs.Scripts.{store_of, tree_of}
use Rattle.rules.specs.Answers.{Answer, answer, run_tree}
use Rattle.rules.specs.File.{turn_of, first_refusal, asks_size, asks_leaves, asks_expr}

abbrev whole : ℕ → Expr
whole n = constant (pos n)

abbrev less : ℕ → Expr
less n = constant (neg_ℤ (pos n))

-- ---- how a text is read
record Case : Type 0 where
  text : List ℕ
  tree : Expr

case : List ℕ → Expr → Case
case t x = record { text = t; tree = x }

given : List Case → List Parsed
unfolding parse
given [] = []
given (c ∷ cs) = parse c.text ∷ given cs

wanted : List Case → List Parsed
wanted [] = []
wanted (c ∷ cs) = parsed c.tree [] ∷ wanted cs

-- "times before plus and minus, equals from the left", parentheses, a `-` where a factor is due; a constant or a variable alone, and one in parentheses, which is neither
texts : List Case
texts =
    case (50 ∷ 42 ∷ 118 ∷ 49 ∷ 43 ∷ 50 ∷ []) (apply Add (apply Mul (whole 2) (variable 1)) (whole 2))
    ∷ case (50 ∷ 43 ∷ 50 ∷ 42 ∷ 118 ∷ 49 ∷ []) (apply Add (whole 2) (apply Mul (whole 2) (variable 1)))
    ∷ case (57 ∷ 45 ∷ 51 ∷ 45 ∷ 50 ∷ []) (apply Sub (apply Sub (whole 9) (whole 3)) (whole 2))
    ∷ case (56 ∷ 42 ∷ 50 ∷ 42 ∷ 118 ∷ 48 ∷ 45 ∷ 49 ∷ 43 ∷ 51 ∷ []) (apply Add (apply Sub (apply Mul (apply Mul (whole 8) (whole 2)) (variable 0)) (whole 1)) (whole 3))
    ∷ case (50 ∷ 42 ∷ 40 ∷ 118 ∷ 49 ∷ 43 ∷ 50 ∷ 41 ∷ []) (apply Mul (whole 2) (group (apply Add (variable 1) (whole 2))))
    ∷ case (49 ∷ 45 ∷ 45 ∷ 53 ∷ []) (apply Sub (whole 1) (less 5))
    ∷ case (45 ∷ 53 ∷ 42 ∷ 45 ∷ 50 ∷ []) (apply Mul (less 5) (less 2))
    ∷ case (55 ∷ []) (whole 7)
    ∷ case (45 ∷ 55 ∷ []) (less 7)
    ∷ case (118 ∷ 49 ∷ 50 ∷ []) (variable 12)
    ∷ case (40 ∷ 118 ∷ 49 ∷ 41 ∷ []) (group (variable 1))
    ∷ case (40 ∷ 40 ∷ 53 ∷ 41 ∷ 41 ∷ []) (group (group (whole 5)))
    ∷ []

all_texts : given texts ≡ wanted texts
unfolding given wanted texts case parse read_expression expression then_parse ahead after_term after_factor factor_of close atom at_end is_mark up_to_mark from_mark word_of is_natural is_negative is_variable is_digit all_digits value_from plain_word block_word comparison_word equals
all_texts = refl

-- ---- question 3
refused : List (List ℕ) → List Parsed
refused [] = []
refused (t ∷ ts) = parse t ∷ refused ts

shapes : List (List ℕ)
shapes =
    []
    ∷ (45 ∷ 118 ∷ 48 ∷ [])
    ∷ (45 ∷ 40 ∷ 49 ∷ 41 ∷ [])
    ∷ (49 ∷ 45 ∷ 45 ∷ 48 ∷ [])
    ∷ (45 ∷ 48 ∷ [])
    ∷ (48 ∷ 49 ∷ [])
    ∷ (49 ∷ 43 ∷ [])
    ∷ (43 ∷ 49 ∷ [])
    ∷ (50 ∷ 42 ∷ 42 ∷ 51 ∷ [])
    ∷ (40 ∷ 49 ∷ [])
    ∷ (49 ∷ 41 ∷ [])
    ∷ (40 ∷ 41 ∷ [])
    ∷ (118 ∷ 49 ∷ 118 ∷ 50 ∷ [])
    ∷ (118 ∷ [])
    ∷ (40 ∷ 49 ∷ 41 ∷ 50 ∷ [])
    ∷ (49 ∷ 40 ∷ 50 ∷ 41 ∷ [])
    ∷ (97 ∷ 100 ∷ 100 ∷ [])
    ∷ (60 ∷ 61 ∷ [])
    ∷ []

all_shapes : refused shapes ≡ shapeless ∷ shapeless ∷ shapeless ∷ shapeless ∷ shapeless ∷ shapeless ∷ shapeless ∷ shapeless ∷ shapeless ∷ shapeless ∷ shapeless ∷ shapeless ∷ shapeless ∷ shapeless ∷ shapeless ∷ shapeless ∷ shapeless ∷ shapeless ∷ []
unfolding refused shapes parse read_expression expression then_parse ahead after_term after_factor factor_of close atom at_end is_mark up_to_mark from_mark word_of is_natural is_negative is_variable is_digit all_digits value_from plain_word block_word comparison_word equals
all_shapes = refl

-- ---- the questions 3, 17, 4 and 5 in this order, with two variables
asked : List (List ℕ) → List ℕ
asked [] = []
asked (t ∷ ts) = asks_expr 2 (parse t) ∷ asked ts

words : List (List ℕ)
words =
    (40 ∷ 40 ∷ 40 ∷ 40 ∷ 40 ∷ 40 ∷ 40 ∷ 40 ∷ 49 ∷ 41 ∷ 41 ∷ 41 ∷ 41 ∷ 41 ∷ 41 ∷ 41 ∷ 41 ∷ [])
    ∷ (40 ∷ 40 ∷ 40 ∷ 40 ∷ 40 ∷ 40 ∷ 40 ∷ 40 ∷ 40 ∷ 49 ∷ 41 ∷ 41 ∷ 41 ∷ 41 ∷ 41 ∷ 41 ∷ 41 ∷ 41 ∷ 41 ∷ [])
    ∷ (40 ∷ 49 ∷ 41 ∷ 43 ∷ 40 ∷ 49 ∷ 41 ∷ 43 ∷ 40 ∷ 49 ∷ 41 ∷ 43 ∷ 40 ∷ 49 ∷ 41 ∷ 43 ∷ 40 ∷ 49 ∷ 41 ∷ 43 ∷ 40 ∷ 49 ∷ 41 ∷ 43 ∷ 40 ∷ 49 ∷ 41 ∷ 43 ∷ 40 ∷ 49 ∷ 41 ∷ 43 ∷ 40 ∷ 49 ∷ 41 ∷ [])
    ∷ (49 ∷ 43 ∷ 49 ∷ 43 ∷ 49 ∷ 43 ∷ 49 ∷ 43 ∷ 49 ∷ 43 ∷ 49 ∷ 43 ∷ 49 ∷ 43 ∷ 49 ∷ 43 ∷ 49 ∷ 43 ∷ 49 ∷ 43 ∷ 49 ∷ 43 ∷ 49 ∷ 43 ∷ 49 ∷ 43 ∷ 49 ∷ 43 ∷ 49 ∷ 43 ∷ 49 ∷ [])
    ∷ (49 ∷ 42 ∷ 49 ∷ 42 ∷ 49 ∷ 42 ∷ 49 ∷ 42 ∷ 49 ∷ 42 ∷ 49 ∷ 42 ∷ 49 ∷ 42 ∷ 49 ∷ 42 ∷ 49 ∷ 42 ∷ 49 ∷ 42 ∷ 49 ∷ 42 ∷ 49 ∷ 42 ∷ 49 ∷ 42 ∷ 49 ∷ 42 ∷ 49 ∷ 42 ∷ 49 ∷ 42 ∷ 49 ∷ [])
    ∷ (40 ∷ 40 ∷ 40 ∷ 40 ∷ 40 ∷ 40 ∷ 40 ∷ 40 ∷ 40 ∷ 49 ∷ 48 ∷ 48 ∷ 48 ∷ 48 ∷ 48 ∷ 48 ∷ 48 ∷ 48 ∷ 49 ∷ 41 ∷ 41 ∷ 41 ∷ 41 ∷ 41 ∷ 41 ∷ 41 ∷ 41 ∷ 41 ∷ [])
    ∷ (40 ∷ 40 ∷ 40 ∷ 40 ∷ 40 ∷ 40 ∷ 40 ∷ 40 ∷ 40 ∷ 49 ∷ 41 ∷ 41 ∷ 41 ∷ 41 ∷ 41 ∷ 41 ∷ 41 ∷ 41 ∷ [])
    ∷ (118 ∷ 50 ∷ 45 ∷ 49 ∷ 48 ∷ 48 ∷ 48 ∷ 48 ∷ 48 ∷ 48 ∷ 48 ∷ 48 ∷ 49 ∷ [])
    ∷ (45 ∷ 49 ∷ 48 ∷ 48 ∷ 48 ∷ 48 ∷ 48 ∷ 48 ∷ 48 ∷ 48 ∷ 48 ∷ 42 ∷ 118 ∷ 50 ∷ [])
    ∷ (45 ∷ 49 ∷ 48 ∷ 48 ∷ 48 ∷ 48 ∷ 48 ∷ 48 ∷ 48 ∷ 48 ∷ 48 ∷ 42 ∷ 118 ∷ 49 ∷ [])
    ∷ []

-- 8 open; 9 open; 9 open, one after the other; 15 operators; 16 operators; 9 open and past L; 9 open and not closed; past L, and no such variable; no such variable; both inside
all_words : asked words ≡ 0 ∷ 17 ∷ 0 ∷ 0 ∷ 17 ∷ 17 ∷ 3 ∷ 4 ∷ 5 ∷ 0 ∷ []
unfolding asked words turn_of first_refusal asks_size asks_leaves depth operators lowest highest parse read_expression expression then_parse ahead after_term after_factor factor_of close atom at_end is_mark up_to_mark from_mark word_of is_natural is_negative is_variable is_digit all_digits value_from plain_word block_word comparison_word equals
all_words = refl

-- ---- twice the rig plus two: its range for a rig of 3 to 5, its value for a rig of 4
abbrev rig : Expr
rig = apply Add (apply Mul (whole 2) (variable 1)) (whole 2)

rig_range : bounds (λ w. record { lo = pos 3; hi = pos 5 }) rig ≡ record { lo = pos 8; hi = pos 12 }
unfolding bounds meaning spread operate clamp min_z max_z lowest highest
rig_range = refl

rig_value : value rig (λ w. pos 4) ≡ number (pos 10)
unfolding value meaning operated limited operate choose lowest highest
rig_value = refl

-- the four results on the ends, drawn back: −2 to 3 times −5 to 4
signs_range : spread Mul (record { lo = neg_ℤ (pos 2); hi = pos 3 }) (record { lo = neg_ℤ (pos 5); hi = pos 4 }) ≡ record { lo = neg_ℤ (pos 15); hi = pos 12 }
unfolding spread operate clamp min_z max_z lowest highest
signs_range = refl

square_range : bounds (λ w. record { lo = pos 0; hi = pos 100_000 }) (apply Mul (variable 0) (variable 0)) ≡ record { lo = pos 0; hi = highest }
unfolding bounds meaning spread operate clamp min_z max_z lowest highest
square_range = refl

-- a result on the way that is past ±L, though the last one would not be
square_past : value (apply Sub (apply Mul (variable 0) (variable 0)) (whole 1_000_000_000)) (λ w. pos 40_000) ≡ past
unfolding value meaning operated limited operate choose lowest highest
square_past = refl

-- ---- a run whose limit is past ±L ends "range" at the head row, after the ticks of start and test; its entry is not ended by its test
abbrev rows : List RowKind
rows = For 0 (whole 1) Less (apply Mul (variable 1) (variable 1)) (Change.Add 1) ∷ (End ∷ [])

abbrev square_run : Answer
square_run = run_tree ones 2 (tree_of rows) (store_of (pos 0 ∷ (pos 100_000 ∷ []))) [] 99

square_ends : (square_run.ending ≡ Ending.Range) × (square_run.row ≡ 0) × (square_run.ticks ≡ 2) × (square_run.entries ≡ record { row = 0; turns = 0; tested = false } ∷ [])
unfolding run_tree answer tree_of build built_row view_of with_last loop_head plain_row closes in_front snoc run enter starting turning iter exec bind prepend closing choose charge write result applied compares tried decide value meaning operated limited operate lowest highest
square_ends = (refl, refl, refl, refl)
