-- "The script file", written: the text of a script. It is read back as that script, and a file that is read is the text of its script.
use Rattle.std.specs.Prelude.{◌≡◌, ◌↔◌, List, [], ◌∷◌, ◌++◌, map, ℕ, suc, ◌≤◌, max, T, ℤ, length}
use Rattle.rules.specs.declared.Change.{Change}
use Rattle.rules.specs.declared.Comparison.{Comparison}
use Rattle.rules.specs.declared.Comparison.TheVariants.{Less, AtMost, Greater, AtLeast, Equal, Different}
use Rattle.rules.specs.declared.Name.{Name}
use Rattle.rules.specs.declared.Operator.{Operator}
use Rattle.rules.specs.declared.Operator.TheVariants.{Add, Sub, Mul}
use Rattle.rules.specs.Expressions.{Expr, constant, variable, group, apply}
use Rattle.rules.specs.Text.{lf, space, minus, letter_v}
use Rattle.rules.specs.Parse.{depth, operators}
use Rattle.rules.specs.Blocks.{RowKind, End, Else, Pick, Set, Move, Off, Cue, While, Do, For, Hold, Block, done, plain, pick, loop, to_end, parts, build}
use Rattle.rules.specs.Ranges.{Range, ordered, sort}
use Rattle.rules.specs.Scripts.{All, Script, tree_of, RangeLimits, RowLimits, RowBelow, Legal}
use Rattle.rules.specs.Report.{decimal, sign, size}
use Rattle.rules.specs.File.{script_key, vars_key, range_key, rows_key, row_key, read, file_script}
use Rattle.rules.specs.Calls.{loop_rows}

-- ---- words
-- "A number is decimal, without plus or leading zeros; `-` only before a non-zero number"
unfoldable pub number_text : ℤ → List ℕ
number_text z = sign z ++ decimal (size z)

-- "A variable is v and a number not below 0"
unfoldable pub variable_text : ℕ → List ℕ
variable_text v = letter_v ∷ decimal v

-- + - *
unfoldable pub operator_byte : Operator → ℕ
operator_byte Add = 43
operator_byte Sub = minus
operator_byte Mul = 42

-- "an expression without spaces over constants and variables: + - *, parentheses"
unfoldable pub expr_text : Expr → List ℕ
expr_text (constant z) = number_text z
expr_text (variable w) = variable_text w
expr_text (group x) = 40 ∷ (expr_text x ++ (41 ∷ []))
expr_text (apply o x y) = expr_text x ++ (operator_byte o ∷ expr_text y)

-- < <= > >= == !=
unfoldable pub comparison_text : Comparison → List ℕ
comparison_text Less = 60 ∷ []
comparison_text AtMost = 60 ∷ 61 ∷ []
comparison_text Greater = 62 ∷ []
comparison_text AtLeast = 62 ∷ 61 ∷ []
comparison_text Equal = 61 ∷ 61 ∷ []
comparison_text Different = 33 ∷ 61 ∷ []

-- set, add, sub, mul, div, off, cue, pick, else, end, while, do, for, hold
unfoldable pub name_text : Name → List ℕ
name_text Name.Set = 115 ∷ 101 ∷ 116 ∷ []
name_text Name.Add = 97 ∷ 100 ∷ 100 ∷ []
name_text Name.Sub = 115 ∷ 117 ∷ 98 ∷ []
name_text Name.Mul = 109 ∷ 117 ∷ 108 ∷ []
name_text Name.Div = 100 ∷ 105 ∷ 118 ∷ []
name_text Name.Off = 111 ∷ 102 ∷ 102 ∷ []
name_text Name.Cue = 99 ∷ 117 ∷ 101 ∷ []
name_text Name.Pick = 112 ∷ 105 ∷ 99 ∷ 107 ∷ []
name_text Name.Else = 101 ∷ 108 ∷ 115 ∷ 101 ∷ []
name_text Name.End = 101 ∷ 110 ∷ 100 ∷ []
name_text Name.While = 119 ∷ 104 ∷ 105 ∷ 108 ∷ 101 ∷ []
name_text Name.Do = 100 ∷ 111 ∷ []
name_text Name.For = 102 ∷ 111 ∷ 114 ∷ []
name_text Name.Hold = 104 ∷ 111 ∷ 108 ∷ 100 ∷ []

-- the name of an arithmetic row
abbrev pub change_name : Change → Name
change_name (Change.Add c) = Name.Add
change_name (Change.Sub c) = Name.Sub
change_name (Change.Mul c) = Name.Mul
change_name (Change.Div c) = Name.Div

-- its C
abbrev pub change_number : Change → ℕ
change_number (Change.Add c) = c
change_number (Change.Sub c) = c
change_number (Change.Mul c) = c
change_number (Change.Div c) = c

-- `set v0 X`, `add v0 C`, `off v0 v1 > C`, `cue N`, `pick`, `else`, `end`, `while v0 <= X`, `do v0 <= X`, `for v0 X <= Y add C`, `hold v0`
unfoldable pub row_words : RowKind → List (List ℕ)
row_words (Set v x) = name_text Name.Set ∷ variable_text v ∷ expr_text x ∷ []
row_words (Move v c) = name_text (change_name c) ∷ variable_text v ∷ decimal (change_number c) ∷ []
row_words (Off v w c k) = name_text Name.Off ∷ variable_text v ∷ variable_text w ∷ comparison_text c ∷ number_text k ∷ []
row_words (Cue n) = name_text Name.Cue ∷ decimal n ∷ []
row_words Pick = name_text Name.Pick ∷ []
row_words Else = name_text Name.Else ∷ []
row_words End = name_text Name.End ∷ []
row_words (While v c x) = name_text Name.While ∷ variable_text v ∷ comparison_text c ∷ expr_text x ∷ []
row_words (Do v c x) = name_text Name.Do ∷ variable_text v ∷ comparison_text c ∷ expr_text x ∷ []
row_words (For v s c x d) =
    name_text Name.For ∷ variable_text v ∷ expr_text s ∷ comparison_text c ∷ expr_text x ∷ name_text (change_name d) ∷ decimal (change_number d) ∷ []
row_words (Hold v) = name_text Name.Hold ∷ variable_text v ∷ []

-- ---- lines
-- texts with a byte b between each two
unfoldable pub between : ℕ → List (List ℕ) → List ℕ
between b [] = []
between b (w ∷ []) = w
between b (w ∷ (x ∷ ws)) = w ++ (b ∷ between b (x ∷ ws))

-- a line without its LF: "one space between words, nothing after the last"
unfoldable pub line_text : List ℕ → List (List ℕ) → List ℕ
line_text key words = key ++ between space words

-- `range=LO HI`
unfoldable pub range_text : Range → List ℕ
range_text r = line_text range_key (number_text r.lo ∷ number_text r.hi ∷ [])

-- `row=`
unfoldable pub row_text : RowKind → List ℕ
row_text k = line_text row_key (row_words k)

-- "Key=value lines in this order: `script=1`, `vars=V`, V lines `range=LO HI`, `rows=R`, R lines `row=`"
unfoldable pub script_texts : Script → List (List ℕ)
script_texts s =
    line_text script_key (decimal 1 ∷ []) ∷ (line_text vars_key (decimal (length s.ranges) ∷ [])
    ∷ (map range_text s.ranges ++ (line_text rows_key (decimal (length s.rows) ∷ []) ∷ map row_text s.rows)))

-- "Each line ends in LF"
unfoldable pub ended : List (List ℕ) → List ℕ
ended [] = []
ended (l ∷ ls) = l ++ (lf ∷ ended ls)

-- the text of a script
unfoldable pub text_of : Script → List ℕ
text_of s = ended (script_texts s)

-- ---- 3 of expressions and of `off`
-- an expression, a term of it, or a factor of a term
pub data Level : Type 0 where
  as_expression as_term as_factor : Level

-- "times before plus and minus, equals from the left": the left side of + and - is an expression and their right side a term; the left side of * is a term
-- and its right side a factor. "A factor may hold a whole expression in parentheses"
unfoldable pub Shaped : Level → Expr → Type 0
Shaped l (constant z) = Unit {0}
Shaped l (variable w) = Unit {0}
Shaped l (group x) = Shaped as_expression x
Shaped as_expression (apply Add x y) = Shaped as_expression x × Shaped as_term y
Shaped as_expression (apply Sub x y) = Shaped as_expression x × Shaped as_term y
Shaped as_expression (apply Mul x y) = Shaped as_term x × Shaped as_factor y
Shaped as_term (apply Add x y) = ⊥
Shaped as_term (apply Sub x y) = ⊥
Shaped as_term (apply Mul x y) = Shaped as_term x × Shaped as_factor y
Shaped as_factor (apply o x y) = ⊥

-- of each expression of a row
abbrev pub EachExpr : (Expr → Type 0) → RowKind → Type 0
EachExpr Q (Set v x) = Q x
EachExpr Q (Move v c) = Unit {0}
EachExpr Q (Off v w c k) = Unit {0}
EachExpr Q (Cue n) = Unit {0}
EachExpr Q Pick = Unit {0}
EachExpr Q Else = Unit {0}
EachExpr Q End = Unit {0}
EachExpr Q (While v c x) = Q x
EachExpr Q (Do v c x) = Q x
EachExpr Q (For v s c x d) = Q s × Q x
EachExpr Q (Hold v) = Unit {0}

-- `off` takes < <= > or >=
abbrev pub OffOrdered : RowKind → Type 0
OffOrdered (Set v x) = Unit {0}
OffOrdered (Move v c) = Unit {0}
OffOrdered (Off v w c k) = T (ordered (sort c))
OffOrdered (Cue n) = Unit {0}
OffOrdered Pick = Unit {0}
OffOrdered Else = Unit {0}
OffOrdered End = Unit {0}
OffOrdered (While v c x) = Unit {0}
OffOrdered (Do v c x) = Unit {0}
OffOrdered (For v s c x d) = Unit {0}
OffOrdered (Hold v) = Unit {0}

-- ---- 17 and 7
-- "more than 8 parentheses open together or more than 15 operators in one expression"
abbrev pub SmallExpr : Expr → Type 0
SmallExpr x = (depth x ≤ 8) × (operators x ≤ 15)

-- how deep blocks are
unfoldable pub deepest : Block → ℕ
deepest done = 0
deepest (plain i p rest) = deepest rest
deepest (pick i e a b rest) = max (suc (max (deepest a) (deepest b))) (deepest rest)
deepest (loop i e form test body rest) = max (suc (deepest body)) (deepest rest)

-- ---- the questions of a file
-- a row that has a text of its own: 3 of its expressions and of `off`, and 17
pub record Writable (k : RowKind) : Type 0 where
  pub shaped : EachExpr (Shaped as_expression) k
  pub ordered : OffOrdered k
  pub small : EachExpr SmallExpr k

-- 2 to 7 and 17 have yes
pub record ReadYes (file : List ℕ) (script : Script) : Type 0 where
  -- 2: "Is the file at most 16,384 bytes?"
  pub short : length file ≤ 16_384
  -- 3: "Has the line the shape its place wants?"
  pub text : file ≡ text_of script
  pub shaped : All (EachExpr (Shaped as_expression)) script.rows
  pub ordered : All OffOrdered script.rows
  -- 17
  pub small : All (EachExpr SmallExpr) script.rows
  -- 4: "Is every number inside its limits, LO at most HI?"
  pub sizes : (length script.ranges ≤ 16) × (length script.rows ≤ 256)
  pub numbers : All RangeLimits script.ranges × All RowLimits script.rows
  -- 5: "Is every variable below V?"
  pub variables : All (RowBelow (length script.ranges)) script.rows
  -- 6: "Does every else and end close a fitting block, each pick with at most one else?" and none is left open
  pub closed : build 0 script.rows ≡ parts (to_end (length script.rows) (tree_of script.rows)) []
  -- 7: "Are blocks at most 8 deep and loops at most 16?"
  pub deep : deepest (tree_of script.rows) ≤ 8
  pub loops : length (loop_rows 0 script.rows) ≤ 16

-- a file is read as a script exactly when they have
unfoldable pub ReadExactly : Type 0
ReadExactly = (file : List ℕ) (script : Script) → ((ls : List (List ℕ)) × (file_script file ≡ read script ls)) ↔ ReadYes file script

-- the text of a legal script is read back as that script
unfoldable pub TextReads : Type 0
TextReads = (script : Script) → Legal script → All Writable script.rows → length (text_of script) ≤ 16_384 → file_script (text_of script) ≡ read script ([] ∷ [])

-- a file that is read is the text of its script
unfoldable pub FileIsText : Type 0
FileIsText = (file : List ℕ) (script : Script) (ls : List (List ℕ)) → file_script file ≡ read script ls → file ≡ text_of script
