-- "Answered in this order; the first no refuses, with number and place": all questions that a report or a run asks before 14 and 15, as one list.
use Rattle.std.specs.Prelude.{◌≡◌, ◌↔◌, Bool, true, not, ◌&&◌, ℕ, zero, suc, leb, eqb, pos, nat_abs, length, get_or}
use mathlib.Core.List.{List, [], ◌∷◌, ◌++◌, map, flat_map}
use Rattle.rules.specs.declared.Name.{Name}
use Rattle.rules.specs.declared.Word.{Word}
use Rattle.rules.specs.declared.Word.TheVariants.{Missing, Number, Variable, Compares, Keyword, Other}
use Rattle.rules.specs.Expressions.{Expr, constant, variable, group, apply}
use Rattle.rules.specs.Values.{lowest, highest}
use Rattle.rules.specs.Text.{lf, split, words_of, next_texts, next_words, next_lines}
use Rattle.rules.specs.Parse.{Parsed, parsed, shapeless, parse}
use Rattle.rules.specs.Blocks.{view_of}
use Rattle.rules.specs.Steps.{moving}
use Rattle.rules.specs.Ranges.{sort, suits}
use Rattle.rules.specs.Trips.{Trip, edge_of, first_of, trip}
use Rattle.rules.specs.Figures.{Prices}
use Rattle.rules.specs.Nesting.{Nest, Nested, nested, wrong, nest_row}
use Rattle.rules.specs.Questions.{Verdict, passed, refused, asked, known, has_figure, tick_limit}
use Rattle.rules.specs.Scripts.{Script, start_env, tree_of, report_ticks}
use Rattle.rules.specs.FirstOver.{BlockTicks, script_blocks}
use Rattle.rules.specs.Stepping.{LoopAt, loops_in}
use Rattle.rules.specs.File.{asks_end, asks_number, asks_variable, asks_size, asks_leaves, asks_comparison, asks_ordered, asks_change, asks_step, asks_one, asks_order, asks_rest, asks_closed}
use Rattle.rules.specs.File.{number_of, RowRead, Read, Wrong, row_of, Reading, read, lines_script, script_key, vars_key, range_key, rows_key, row_key, no_rows}
use Rattle.rules.specs.Calls.{accepted, refuses, judged, prices_of}

-- a question that is asked: its number, its place, and whether the answer is yes
pub record Question : Type 0 where
  pub number : ℕ
  pub place : ℕ
  pub yes : Bool

-- of its parts
abbrev pub ask : ℕ → ℕ → Bool → Question
ask q p b = record { number = q; place = p; yes = b }

-- "the first no refuses, with number and place"
unfoldable pub first_no : List Question → Verdict
first_no [] = passed
first_no (q ∷ qs) = asked q.number q.place q.yes (first_no qs)

-- 16: "four prices, 1 to 1,000 each"; place "the first price (from 0) wrong, missing or extra". A missing one counts as 0
unfoldable pub price_questions : List ℕ → List Question
price_questions prices = map (λ i. ask 16 i (leb 1 (get_or prices i 0) && leb (get_or prices i 0) 1_000)) (0 ∷ 1 ∷ 2 ∷ 3 ∷ []) ++ (ask 16 4 (leb (length prices) 4) ∷ [])

-- ---- "Questions 3 to 7 go line by line, all of them on one line before the next"; 17 "after question 3 on that line"
abbrev pub line_order : List ℕ
line_order = 3 ∷ 17 ∷ 4 ∷ 5 ∷ 6 ∷ 7 ∷ []

-- q is not among the questions that have no
abbrev pub has_yes : ℕ → List ℕ → Bool
has_yes q [] = true
has_yes q (n ∷ noes) = not (eqb n q) && has_yes q noes

-- the questions of line p, by its noes: of each word the question that has no, or 0
unfoldable pub line_questions : ℕ → List ℕ → List Question
line_questions p noes = map (λ q. ask q p (has_yes q noes)) line_order

-- those of the lines from line p on: "Lines count from 1"
unfoldable pub lines_questions : ℕ → List (List ℕ) → List Question
lines_questions p [] = []
lines_questions p (noes ∷ lines) = line_questions p noes ++ lines_questions (suc p) lines

-- 4 and 5 of each constant and variable of an expression
unfoldable pub leaf_noes : ℕ → Expr → List ℕ
leaf_noes vars (constant z) = asks_leaves vars (constant z) ∷ []
leaf_noes vars (variable v) = asks_leaves vars (variable v) ∷ []
leaf_noes vars (group x) = leaf_noes vars x
leaf_noes vars (apply o x y) = leaf_noes vars x ++ leaf_noes vars y

-- X: also 17, or 3
abbrev pub expr_noes : ℕ → Parsed → List ℕ
expr_noes vars (parsed x s) = asks_size x ∷ leaf_noes vars x
expr_noes vars shapeless = 3 ∷ []

module _ (vars : ℕ) (word : ℕ → Word) (expr : ℕ → Parsed) where
  -- `add v0 C`, `sub v0 C`, `mul v0 C`, `div v0 C`
  abbrev pub move_noes : Name → List ℕ
  move_noes n = asks_variable vars (word 1) ∷ asks_change n (word 2) ∷ asks_end (word 3) ∷ []

  -- `while v0 <= X`, `do v0 <= X`
  abbrev pub test_noes : List ℕ
  test_noes = asks_variable vars (word 1) ∷ asks_comparison (word 2) ∷ (expr_noes vars (expr 3) ++ (asks_end (word 4) ∷ []))

  -- the words after a row's name
  abbrev pub named_noes : Name → List ℕ
  named_noes Name.Set = asks_variable vars (word 1) ∷ (expr_noes vars (expr 2) ++ (asks_end (word 3) ∷ []))
  named_noes Name.Add = move_noes Name.Add
  named_noes Name.Sub = move_noes Name.Sub
  named_noes Name.Mul = move_noes Name.Mul
  named_noes Name.Div = move_noes Name.Div
  named_noes Name.Off = asks_variable vars (word 1) ∷ asks_variable vars (word 2) ∷ asks_ordered (word 3) ∷ asks_number lowest highest (word 4) ∷ asks_end (word 5) ∷ []
  named_noes Name.Cue = asks_number (pos 0) (pos 9_999) (word 1) ∷ asks_end (word 2) ∷ []
  named_noes Name.Pick = asks_end (word 1) ∷ []
  named_noes Name.Else = asks_end (word 1) ∷ []
  named_noes Name.End = asks_end (word 1) ∷ []
  named_noes Name.While = test_noes
  named_noes Name.Do = test_noes
  named_noes Name.For = asks_variable vars (word 1) ∷ (expr_noes vars (expr 2) ++ (asks_comparison (word 3) ∷ (expr_noes vars (expr 4) ++ (asks_step (word 5) (word 6) ∷ asks_end (word 7) ∷ []))))
  named_noes Name.Hold = asks_variable vars (word 1) ∷ asks_end (word 2) ∷ []

  -- the name is the first word
  abbrev pub first_word_noes : Word → List ℕ
  first_word_noes Missing = 3 ∷ []
  first_word_noes (Number z) = 3 ∷ []
  first_word_noes (Variable v) = 3 ∷ []
  first_word_noes (Compares c) = 3 ∷ []
  first_word_noes (Keyword n) = named_noes n
  first_word_noes Other = 3 ∷ []

-- 3, 17, 4 and 5 of a row's line
unfoldable pub row_noes : ℕ → List (List ℕ) → List ℕ
row_noes vars texts = first_word_noes vars (words_of texts) (λ i. parse (get_or texts i [])) (words_of texts 0)

-- 6 and 7 of a row; s: the blocks that are open before it. A row that is not read leaves them as they are
abbrev pub nest_of : Nest → RowRead → Nested
nest_of s (Read k) = nest_row (view_of k) s
nest_of s (Wrong q) = nested s

-- the one that has no, or 0
abbrev pub nest_no : Nested → ℕ
nest_no (nested s) = 0
nest_no (wrong q) = q

-- the blocks that are open after it
abbrev pub nest_after : Nest → Nested → Nest
nest_after s (nested t) = t
nest_after s (wrong q) = s

-- "R lines `row=`", n of them; then the line after the last: 3 for "extra bytes", 6 for "a block left open"
unfoldable pub rows_noes : ℕ → ℕ → List (List ℕ) → Nest → List (List ℕ)
rows_noes vars zero ls s = (asks_rest ls ∷ asks_closed s.open_blocks ∷ []) ∷ []
rows_noes vars (suc n) ls s =
    (row_noes vars (next_texts row_key ls) ++ (nest_no (nest_of s (row_of vars (next_texts row_key ls))) ∷ []))
    ∷ rows_noes vars n (next_lines ls) (nest_after s (nest_of s (row_of vars (next_texts row_key ls))))

-- `vars=V`, `rows=R`, at most `most`
abbrev pub count_noes : List ℕ → ℕ → List (List ℕ) → List ℕ
count_noes key most ls = asks_number (pos 0) (pos most) (next_words key ls 0) ∷ asks_end (next_words key ls 1) ∷ []

-- V, R
abbrev pub count_of : List ℕ → List (List ℕ) → ℕ
count_of key ls = nat_abs (number_of (next_words key ls 0))

-- `range=LO HI`
abbrev pub range_noes : (ℕ → Word) → List ℕ
range_noes w = asks_number lowest highest (w 0) ∷ asks_number lowest highest (w 1) ∷ asks_end (w 2) ∷ asks_order (w 0) (w 1) ∷ []

-- "V lines `range=LO HI`", n of them; then `rows=R` and its rows
unfoldable pub ranges_noes : ℕ → ℕ → List (List ℕ) → List (List ℕ)
ranges_noes vars zero ls = count_noes rows_key 256 ls ∷ rows_noes vars (count_of rows_key ls) (next_lines ls) no_rows.nest
ranges_noes vars (suc n) ls = range_noes (next_words range_key ls) ∷ ranges_noes vars n (next_lines ls)

-- "Key=value lines in this order": `script=1`, `vars=V`, the ranges, the rows
unfoldable pub file_noes : List (List ℕ) → List (List ℕ)
file_noes ls =
    (asks_one (next_words script_key ls 0) ∷ asks_end (next_words script_key ls 1) ∷ [])
    ∷ count_noes vars_key 16 (next_lines ls)
    ∷ ranges_noes (count_of vars_key (next_lines ls)) (count_of vars_key (next_lines ls)) (next_lines (next_lines ls))

-- ---- 19 and 8 to 12 of the loop at row i, by its trip: 19 "before question 8 on that loop"
unfoldable pub trip_questions : ℕ → Trip → List Question
trip_questions i τ =
    ask 19 i τ.terms
    ∷ ask 8 i (known τ.step)
    ∷ ask 9 i (moving τ.step)
    ∷ ask 10 i τ.keeps
    ∷ ask 11 i (suits τ.step (sort τ.comparison))
    ∷ ask 12 i (has_figure τ.step (sort τ.comparison) τ.start (first_of τ) τ.limit (edge_of τ))
    ∷ []

-- of a loop
abbrev pub loop_questions : LoopAt → List Question
loop_questions l = trip_questions l.row (trip l.form l.start l.test l.body)

-- 13 of a block, at its `end` row
abbrev pub block_question : BlockTicks → Question
block_question b = ask 13 b.row (leb b.ticks tick_limit)

-- "8 to 12 loop by loop in row order; 13 when all loops have passed": each block's, then the file's at R
unfoldable pub script_questions : Prices → Script → List Question
script_questions π script =
    flat_map loop_questions (loops_in (start_env script.ranges) (tree_of script.rows))
    ++ (map block_question (script_blocks π script) ++ (ask 13 (length script.rows) (leb (report_ticks π script) tick_limit) ∷ []))

-- those of the script that the lines say; where a line has a no, there is none
abbrev pub read_questions : Prices → Reading Script → List Question
read_questions π (read script ls) = script_questions π script
read_questions π (Reading.refused q p) = []

-- 2, line by line 3 to 7 and 17, then 19 and 8 to 13
unfoldable pub file_questions : Prices → List ℕ → List Question
file_questions π file =
    ask 2 16_384 (leb (length file) 16_384)
    ∷ (lines_questions 1 (file_noes (split lf file)) ++ read_questions π (lines_script (split lf file)))

-- 1, then 16, "between questions 1 and 2", then the file's
unfoldable pub questions : List ℕ → ℕ → List ℕ → List Question
questions prices scratch file = ask 1 1_024 (leb 1_024 scratch) ∷ (price_questions prices ++ file_questions (prices_of prices) file)

-- a call is refused by q at p exactly if that is the first no
unfoldable pub JudgedInOrder : Type 0
JudgedInOrder =
    (prices : List ℕ) (scratch : ℕ) (file : List ℕ) (q p : ℕ) → (judged prices scratch file ≡ refuses q p) ↔ (first_no (questions prices scratch file) ≡ refused q p)

-- and not refused exactly if all have yes
unfoldable pub AcceptedInOrder : Type 0
AcceptedInOrder =
    (prices : List ℕ) (scratch : ℕ) (file : List ℕ)
    → ((script : Script) × (judged prices scratch file ≡ accepted script)) ↔ (first_no (questions prices scratch file) ≡ passed)
