-- "The script file" and the questions 2 to 7 and 17: from a file's bytes to its script, or to the first no with number and place.
use Rattle.std.specs.Prelude.{cond, ◌&&◌, List, [], ◌∷◌, ◌++◌, ℕ, zero, suc, ◌+◌, ◌*◌, leb, ltb, eqb, ℤ, pos, nat_abs, length, get_or}
use Rattle.std.specs.Int.Signed.{le_z}
use Rattle.rules.specs.Expressions.{Expr, constant, variable, group, apply}
use Rattle.rules.specs.declared.Comparison.{Comparison}
use Rattle.rules.specs.declared.Comparison.TheVariants.{Less}
use Rattle.rules.specs.declared.Change.{Change}
use Rattle.rules.specs.Blocks.{RowKind, Set, Move, Cue, Pick, Else, End, While, Do, For, Off, Hold}
use Rattle.rules.specs.declared.Name.{Name}
use Rattle.rules.specs.declared.Word.{Word}
use Rattle.rules.specs.declared.Word.TheVariants.{Missing, Number, Variable, Compares, Keyword, Other}
use Rattle.rules.specs.Values.{lowest, highest}
use Rattle.rules.specs.Blocks.{view_of}
use Rattle.rules.specs.Nesting.{Open, Nest, Nested, nested, wrong, nest_row}
use Rattle.rules.specs.Ranges.{Range, ordered, sort}
use Rattle.rules.specs.Scripts.{Script}
use Rattle.rules.specs.Text.{lf, split, words_of, next_texts, next_words, next_lines}
use Rattle.rules.specs.Parse.{Parsed, parsed, shapeless, parse, expr_in, depth, operators}

-- a question's turn on its line: 17 comes between 3 and 4
unfoldable pub turn_of : ℕ → ℕ
turn_of q = cond (eqb q 17) 7 (2 * q)

-- Questions 3, 17, 4 and 5 are asked of each word; 0: all have yes. All of them on one line go in order, so the line's first no has the least turn.
unfoldable pub first_refusal : ℕ → ℕ → ℕ
first_refusal zero q = q
first_refusal (suc p) zero = suc p
first_refusal (suc p) (suc q) = cond (leb (turn_of (suc p)) (turn_of (suc q))) (suc p) (suc q)

-- nothing after the last word
abbrev pub asks_end : Word → ℕ
asks_end Missing = 0
asks_end (Number z) = 3
asks_end (Variable v) = 3
asks_end (Compares c) = 3
asks_end (Keyword n) = 3
asks_end Other = 3

-- a number from lo to hi
abbrev pub asks_number : ℤ → ℤ → Word → ℕ
asks_number lo hi Missing = 3
asks_number lo hi (Number z) = cond (le_z lo z && le_z z hi) 0 4
asks_number lo hi (Variable v) = 3
asks_number lo hi (Compares c) = 3
asks_number lo hi (Keyword n) = 3
asks_number lo hi Other = 3

-- a variable below V
abbrev pub asks_variable : ℕ → Word → ℕ
asks_variable vars Missing = 3
asks_variable vars (Number z) = 3
asks_variable vars (Variable v) = cond (ltb v vars) 0 5
asks_variable vars (Compares c) = 3
asks_variable vars (Keyword n) = 3
asks_variable vars Other = 3

-- 17: "more than 8 parentheses open together or more than 15 operators in one expression"
unfoldable pub asks_size : Expr → ℕ
asks_size x = cond (leb (depth x) 8 && leb (operators x) 15) 0 17

-- 4 and 5: each constant from −L to L, each variable below V
unfoldable pub asks_leaves : ℕ → Expr → ℕ
asks_leaves vars (constant z) = cond (le_z lowest z && le_z z highest) 0 4
asks_leaves vars (variable v) = cond (ltb v vars) 0 5
asks_leaves vars (group x) = asks_leaves vars x
asks_leaves vars (apply o x y) = first_refusal (asks_leaves vars x) (asks_leaves vars y)

-- X: an expression
abbrev pub asks_expr : ℕ → Parsed → ℕ
asks_expr vars (parsed x s) = first_refusal (asks_size x) (asks_leaves vars x)
asks_expr vars shapeless = 3

-- a comparison
abbrev pub asks_comparison : Word → ℕ
asks_comparison Missing = 3
asks_comparison (Number z) = 3
asks_comparison (Variable v) = 3
asks_comparison (Compares c) = 0
asks_comparison (Keyword n) = 3
asks_comparison Other = 3

-- < <= > >=
abbrev pub asks_ordered : Word → ℕ
asks_ordered Missing = 3
asks_ordered (Number z) = 3
asks_ordered (Variable v) = 3
asks_ordered (Compares c) = cond (ordered (sort c)) 0 3
asks_ordered (Keyword n) = 3
asks_ordered Other = 3

-- the number that a word says; of any other word a 0 that is not read
abbrev pub number_of : Word → ℤ
number_of Missing = pos 0
number_of (Number z) = z
number_of (Variable v) = pos 0
number_of (Compares c) = pos 0
number_of (Keyword n) = pos 0
number_of Other = pos 0

-- likewise the variable
abbrev pub variable_of : Word → ℕ
variable_of Missing = 0
variable_of (Number z) = 0
variable_of (Variable v) = v
variable_of (Compares c) = 0
variable_of (Keyword n) = 0
variable_of Other = 0

-- likewise the comparison
abbrev pub comparison_of : Word → Comparison
comparison_of Missing = Less
comparison_of (Number z) = Less
comparison_of (Variable v) = Less
comparison_of (Compares c) = c
comparison_of (Keyword n) = Less
comparison_of Other = Less

-- "`add v0 C`, `sub v0 C` (C 0 to L); `mul v0 C`, `div v0 C` (C 1 to L)": the word C, by the row's name
abbrev pub asks_change : Name → Word → ℕ
asks_change Name.Set w = 3
asks_change Name.Add w = asks_number (pos 0) highest w
asks_change Name.Sub w = asks_number (pos 0) highest w
asks_change Name.Mul w = asks_number (pos 1) highest w
asks_change Name.Div w = asks_number (pos 1) highest w
asks_change Name.Off w = 3
asks_change Name.Cue w = 3
asks_change Name.Pick w = 3
asks_change Name.Else w = 3
asks_change Name.End w = 3
asks_change Name.While w = 3
asks_change Name.Do w = 3
asks_change Name.For w = 3
asks_change Name.Hold w = 3

-- the arithmetic row of that name and C
abbrev pub change_of : Name → Word → Change
change_of Name.Set w = Change.Add 0
change_of Name.Add w = Change.Add (nat_abs (number_of w))
change_of Name.Sub w = Change.Sub (nat_abs (number_of w))
change_of Name.Mul w = Change.Mul (nat_abs (number_of w))
change_of Name.Div w = Change.Div (nat_abs (number_of w))
change_of Name.Off w = Change.Add 0
change_of Name.Cue w = Change.Add 0
change_of Name.Pick w = Change.Add 0
change_of Name.Else w = Change.Add 0
change_of Name.End w = Change.Add 0
change_of Name.While w = Change.Add 0
change_of Name.Do w = Change.Add 0
change_of Name.For w = Change.Add 0
change_of Name.Hold w = Change.Add 0

-- "the step row is any of the four arithmetic rows": its name and C
abbrev pub asks_step : Word → Word → ℕ
asks_step Missing w = 3
asks_step (Number z) w = 3
asks_step (Variable v) w = 3
asks_step (Compares c) w = 3
asks_step (Keyword n) w = asks_change n w
asks_step Other w = 3

-- that row
abbrev pub step_of : Word → Word → Change
step_of Missing w = Change.Add 0
step_of (Number z) w = Change.Add 0
step_of (Variable v) w = Change.Add 0
step_of (Compares c) w = Change.Add 0
step_of (Keyword n) w = change_of n w
step_of Other w = Change.Add 0

-- a row's line: its row, or the question that has no
pub data RowRead : Type 0 where
  Read : RowKind → RowRead
  Wrong : ℕ → RowRead

-- the row, if question q is none
unfoldable pub checked : ℕ → RowKind → RowRead
checked zero k = Read k
checked (suc q) k = Wrong (suc q)

-- "Rows": each with its words, and what is read of each word as an expression
module _ (vars : ℕ) (word : ℕ → Word) (expr : ℕ → Parsed) where
  -- `pick`, `else`, `end`
  unfoldable pub bare_row : RowKind → RowRead
  bare_row k = checked (asks_end (word 1)) k

  -- `set v0 X`
  unfoldable pub set_row : RowRead
  set_row = checked (first_refusal (asks_variable vars (word 1)) (first_refusal (asks_expr vars (expr 2)) (asks_end (word 3)))) (Set (variable_of (word 1)) (expr_in (expr 2)))

  -- `add v0 C`, `sub v0 C`, `mul v0 C`, `div v0 C`
  unfoldable pub move_row : Name → RowRead
  move_row n = checked (first_refusal (asks_variable vars (word 1)) (first_refusal (asks_change n (word 2)) (asks_end (word 3)))) (Move (variable_of (word 1)) (change_of n (word 2)))

  -- change 12: `off v0 v1 > C` (< <= > >=; C from −L to L)
  unfoldable pub off_row : RowRead
  off_row =
      checked (first_refusal (asks_variable vars (word 1)) (first_refusal (asks_variable vars (word 2)) (first_refusal (asks_ordered (word 3)) (first_refusal (asks_number lowest highest (word 4)) (asks_end (word 5))))))
      (Off (variable_of (word 1)) (variable_of (word 2)) (comparison_of (word 3)) (number_of (word 4)))

  -- `cue N` (0 to 9,999)
  unfoldable pub cue_row : RowRead
  cue_row = checked (first_refusal (asks_number (pos 0) (pos 9_999) (word 1)) (asks_end (word 2))) (Cue (nat_abs (number_of (word 1))))

  -- the test of a `while v0 <= X` or `do v0 <= X`
  unfoldable pub asks_test : ℕ
  asks_test = first_refusal (asks_variable vars (word 1)) (first_refusal (asks_comparison (word 2)) (first_refusal (asks_expr vars (expr 3)) (asks_end (word 4))))

  -- `while v0 <= X`
  unfoldable pub while_row : RowRead
  while_row = checked asks_test (While (variable_of (word 1)) (comparison_of (word 2)) (expr_in (expr 3)))

  -- `do v0 <= X`
  unfoldable pub do_row : RowRead
  do_row = checked asks_test (Do (variable_of (word 1)) (comparison_of (word 2)) (expr_in (expr 3)))

  -- the words of `for v0 X <= Y add C`
  unfoldable pub asks_for : ℕ
  asks_for =
      first_refusal (asks_variable vars (word 1)) (first_refusal (asks_expr vars (expr 2)) (first_refusal (asks_comparison (word 3)) (first_refusal (asks_expr vars (expr 4))
      (first_refusal (asks_step (word 5) (word 6)) (asks_end (word 7))))))

  -- "start X, limit Y"
  unfoldable pub for_row : RowRead
  for_row = checked asks_for (For (variable_of (word 1)) (expr_in (expr 2)) (comparison_of (word 3)) (expr_in (expr 4)) (step_of (word 5) (word 6)))

  -- change 12: `hold v0`
  unfoldable pub hold_row : RowRead
  hold_row = checked (first_refusal (asks_variable vars (word 1)) (asks_end (word 2))) (Hold (variable_of (word 1)))

  -- "Every row is one of these kinds", by its name
  abbrev pub named_row : Name → RowRead
  named_row Name.Set = set_row
  named_row Name.Add = move_row Name.Add
  named_row Name.Sub = move_row Name.Sub
  named_row Name.Mul = move_row Name.Mul
  named_row Name.Div = move_row Name.Div
  named_row Name.Off = off_row
  named_row Name.Cue = cue_row
  named_row Name.Pick = bare_row Pick
  named_row Name.Else = bare_row Else
  named_row Name.End = bare_row End
  named_row Name.While = while_row
  named_row Name.Do = do_row
  named_row Name.For = for_row
  named_row Name.Hold = hold_row

  -- the name is the first word
  abbrev pub first_word : Word → RowRead
  first_word Missing = Wrong 3
  first_word (Number z) = Wrong 3
  first_word (Variable v) = Wrong 3
  first_word (Compares c) = Wrong 3
  first_word (Keyword n) = named_row n
  first_word Other = Wrong 3

  -- the row of a line's words
  unfoldable pub words_row : RowRead
  words_row = first_word (word 0)

-- by their texts
unfoldable pub row_of : ℕ → List (List ℕ) → RowRead
row_of vars texts = words_row vars (words_of texts) (λ i. parse (get_or texts i []))

-- what lines read, with the lines after them; or the first no, with number and place
pub data Reading (A : Type 0) : Type 0 where
  read : A → List (List ℕ) → Reading A
  refused : ℕ → ℕ → Reading A

-- then the lines after them
unfoldable pub then_lines : {A B : Type 0} → Reading A → (A → List (List ℕ) → Reading B) → Reading B
then_lines (read x ls) k = k x ls
then_lines (refused q p) k = refused q p

-- the question q of line p, then what follows
unfoldable pub unless : {A : Type 0} → ℕ → ℕ → Reading A → Reading A
unless zero p r = r
unless (suc q) p r = refused (suc q) p

-- `script=`
abbrev pub script_key : List ℕ
script_key = 115 ∷ 99 ∷ 114 ∷ 105 ∷ 112 ∷ 116 ∷ 61 ∷ []

-- `vars=`
abbrev pub vars_key : List ℕ
vars_key = 118 ∷ 97 ∷ 114 ∷ 115 ∷ 61 ∷ []

-- `range=`
abbrev pub range_key : List ℕ
range_key = 114 ∷ 97 ∷ 110 ∷ 103 ∷ 101 ∷ 61 ∷ []

-- `rows=`, of the script file and of the report
abbrev pub rows_key : List ℕ
rows_key = 114 ∷ 111 ∷ 119 ∷ 115 ∷ 61 ∷ []

-- `row=`
abbrev pub row_key : List ℕ
row_key = 114 ∷ 111 ∷ 119 ∷ 61 ∷ []

-- "another script number too": any number but 1 is of the wrong shape
abbrev pub asks_one : Word → ℕ
asks_one Missing = 3
asks_one (Number z) = cond (le_z (pos 1) z && le_z z (pos 1)) 0 3
asks_one (Variable v) = 3
asks_one (Compares c) = 3
asks_one (Keyword n) = 3
asks_one Other = 3

-- `script=1`
unfoldable pub script_line : List (List ℕ) → Reading ℕ
script_line ls = unless (first_refusal (asks_one (next_words script_key ls 0)) (asks_end (next_words script_key ls 1))) 1 (read 1 (next_lines ls))

-- `vars=V` (0 to 16), `rows=R` (0 to 256)
unfoldable pub count_line : List ℕ → ℕ → ℕ → List (List ℕ) → Reading ℕ
count_line key most p ls =
    unless (first_refusal (asks_number (pos 0) (pos most) (next_words key ls 0)) (asks_end (next_words key ls 1))) p
    (read (nat_abs (number_of (next_words key ls 0))) (next_lines ls))

-- "LO at most HI"
unfoldable pub asks_order : Word → Word → ℕ
asks_order lo hi = cond (le_z (number_of lo) (number_of hi)) 0 4

-- "`range=LO HI` (−L to L, LO at most HI)"
unfoldable pub asks_range : (ℕ → Word) → ℕ
asks_range w =
    first_refusal (asks_number lowest highest (w 0)) (first_refusal (asks_number lowest highest (w 1)) (first_refusal (asks_end (w 2)) (asks_order (w 0) (w 1))))

-- the range of a line's words
unfoldable pub range_words : (ℕ → Word) → Range
range_words w = record { lo = number_of (w 0); hi = number_of (w 1) }

-- "V lines `range=LO HI` (first for v0)": n lines from line p on, after those read
unfoldable pub range_lines : ℕ → ℕ → List (List ℕ) → List Range → Reading (List Range)
range_lines zero p ls done = read done ls
range_lines (suc n) p ls done =
    unless (asks_range (next_words range_key ls)) p (range_lines n (suc p) (next_lines ls) (done ++ (range_words (next_words range_key ls) ∷ [])))

-- the rows read, and the blocks that are open after them
pub record Rows : Type 0 where
  pub kinds : List RowKind
  pub nest : Nest

-- questions 6 and 7 of a row
unfoldable pub placed : ℕ → List RowKind → RowKind → Nested → (Rows → Reading Rows) → Reading Rows
placed p done k (nested s) next = next (record { kinds = done ++ (k ∷ []); nest = s })
placed p done k (wrong q) next = refused q p

-- all questions of a row's line
unfoldable pub row_line : ℕ → Rows → RowRead → (Rows → Reading Rows) → Reading Rows
row_line p done (Wrong q) next = refused q p
row_line p done (Read k) next = placed p done.kinds k (nest_row (view_of k) done.nest) next

-- "R lines `row=`": n lines from line p on, after those read
unfoldable pub row_lines : ℕ → ℕ → ℕ → List (List ℕ) → Rows → Reading Rows
row_lines vars zero p ls done = read done ls
row_lines vars (suc n) p ls done =
    row_line p done (row_of vars (next_texts row_key ls)) (λ rows. row_lines vars n (suc p) (next_lines ls) rows)

-- 3 of the line after the last: "extra bytes"
unfoldable pub asks_rest : List (List ℕ) → ℕ
asks_rest [] = 0
asks_rest ([] ∷ []) = 0
asks_rest ([] ∷ (m ∷ more)) = 3
asks_rest ((b ∷ s) ∷ ls) = 3

-- 6 of it: "a block left open: the line after the last"
unfoldable pub asks_closed : List Open → ℕ
asks_closed [] = 0
asks_closed (o ∷ os) = 6

-- both; then the script
unfoldable pub last_line : ℕ → List Range → Rows → List (List ℕ) → Reading Script
last_line p ranges rows ls =
    unless (first_refusal (asks_rest ls) (asks_closed rows.nest.open_blocks)) p (read (record { ranges = ranges; rows = rows.kinds }) ls)

-- no row yet
abbrev pub no_rows : Rows
no_rows = record { kinds = []; nest = record { open_blocks = []; loops = 0 } }

-- from `rows=R` on; V variables
unfoldable pub row_part : ℕ → List Range → List (List ℕ) → Reading Script
row_part vars ranges ls =
    then_lines (count_line rows_key 256 (3 + vars) ls) λ n more.
    then_lines (row_lines vars n (4 + vars) more no_rows) λ rows rest.
    last_line (4 + vars + n) ranges rows rest

-- from the ranges on
unfoldable pub range_part : ℕ → List (List ℕ) → Reading Script
range_part vars ls = then_lines (range_lines vars 3 ls []) λ ranges more. row_part vars ranges more

-- "Key=value lines in this order"
unfoldable pub lines_script : List (List ℕ) → Reading Script
lines_script ls = then_lines (script_line ls) λ _ more. then_lines (count_line vars_key 16 2 more) λ vars rest. range_part vars rest

-- 2: "Is the file at most 16,384 bytes?"
unfoldable pub file_script : List ℕ → Reading Script
file_script file = cond (leb (length file) 16_384) (lines_script (split lf file)) (refused 2 16_384)
