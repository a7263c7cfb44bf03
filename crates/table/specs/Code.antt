-- What the four numbers of a row of the table stand for. The first has, from the lowest field up, the op (8 bits), the variable (8), the
-- comparison (3), the kinds of the limit and of the change (2 each) and, from bit 24 on, the partner row.
use Rattle.std.specs.Prelude.{◌≡◌, Bool, true, false, cond, List, [], ◌∷◌, map, ℕ, ◌+◌, ◌*◌, ◌/◌, ◌%◌, ltb, eqb, ℤ, pos, ◌-ℤ◌, get_or, take}
use Rattle.rules.specs.declared.Row.{Row}
use Rattle.rules.specs.declared.Kind.{Kind}
use Rattle.rules.specs.declared.Kind.TheVariants.{Set, Move, Cue, Pick, Else, End, While, Do, For, Off, Hold}
use Rattle.rules.specs.declared.Operand.{Operand}
use Rattle.rules.specs.declared.Operand.TheVariants.{Constant, Variable, Expression}
use Rattle.rules.specs.declared.Comparison.{Comparison}
use Rattle.rules.specs.declared.Comparison.TheVariants.{Less, AtMost, Greater, AtLeast, Equal, Different}
use Rattle.rules.specs.declared.Change.{Change}
use Rattle.rules.specs.declared.Change.TheVariants.{Add, Sub, Mul, Div}
use Rattle.table.specs.declared.Tag.{Tag}

-- a constant is kept 2^31 above its value
abbrev pub constant_in : ℕ → ℤ
constant_in x = pos x -ℤ pos 2_147_483_648

-- an operand by its kind: 0 a constant, 1 a variable, 2 an expression by its place and length
abbrev pub operand_in : ℕ → ℕ → Operand
operand_in t x = cond (eqb t 0) (Constant (constant_in x)) (cond (eqb t 1) (Variable (x % 256)) (Expression (x / 65_536) (x % 65_536)))

-- is an operand an expression?
abbrev pub is_expression : Operand → Bool
is_expression (Constant k) = false
is_expression (Variable w) = false
is_expression (Expression at n) = true

-- a comparison by its code, a sum: 1 if it passes where less, 2 where equal, 4 where greater
abbrev pub comparison_by : ℕ → Comparison
comparison_by t = cond (eqb t 1) Less (cond (eqb t 3) AtMost (cond (eqb t 4) Greater (cond (eqb t 6) AtLeast (cond (eqb t 2) Equal Different))))

-- a change by its kind, 0 add, 1 sub, 2 mul, 3 div, and its number
abbrev pub change_in : ℕ → ℕ → Change
change_in t c = cond (eqb t 0) (Add c) (cond (eqb t 1) (Sub c) (cond (eqb t 2) (Mul c) (Div c)))

-- number k of a row
abbrev pub number : List ℕ → ℕ → ℕ
number e k = get_or e k 0

-- what the row does
abbrev pub op_in : List ℕ → ℕ
op_in e = number e 0 % 256

-- its variable
abbrev pub variable_in : List ℕ → ℕ
variable_in e = number e 0 / 256 % 256

-- the code of its comparison
abbrev pub comparison_in : List ℕ → ℕ
comparison_in e = number e 0 / 65_536 % 8

-- the kind of its limit
abbrev pub limit_kind_in : List ℕ → ℕ
limit_kind_in e = number e 0 / 524_288 % 4

-- the kind of its change
abbrev pub change_kind_in : List ℕ → ℕ
change_kind_in e = number e 0 / 2_097_152 % 4

-- its partner row: of a row that begins a block the row that closes it, of an `end` the row that begins its block
abbrev pub partner_in : List ℕ → ℕ
partner_in e = number e 0 / 16_777_216

-- what a set takes, or a for's start, of the kind that its op says
abbrev pub start_in : List ℕ → Operand
start_in e = operand_in (op_in e % 4) (number e 1)

-- the limit of a test
abbrev pub limit_in : List ℕ → Operand
limit_in e = operand_in (limit_kind_in e) (number e 2)

-- an arithmetic row's change, or a for's step
abbrev pub step_in : List ℕ → Change
step_in e = change_in (change_kind_in e) (number e 3)

-- what an off compares: the watched variable with a constant
abbrev pub watched_in : List ℕ → ℕ
watched_in e = number e 1 % 256

-- the constant that it is compared with
abbrev pub against_in : List ℕ → ℤ
against_in e = constant_in (number e 2)

-- the tag of an op: 0 to 2 an end (of a pick, of a loop with no step, of a for), 3 an else, 4 to 6 a set (of a constant, a variable, an expression), 7 a pick, 8 to 10 a for
-- (its start likewise), 11 a cue, 12 to 15 a change (add, sub, mul, div), 16 an off, 17 a while, 18 a do, 19 a hold
abbrev pub tag_in : ℕ → Tag
tag_in op =
    cond (ltb op 3) Tag.End (cond (ltb op 4) Tag.Else (cond (ltb op 7) Tag.Set (cond (ltb op 8) Tag.Pick (cond (ltb op 11) Tag.For (cond (ltb op 12) Tag.Cue
    (cond (ltb op 16) Tag.Move (cond (ltb op 17) Tag.Off (cond (ltb op 18) Tag.While (cond (ltb op 19) Tag.Do Tag.Hold)))))))))

-- a row's tag
abbrev pub row_tag : List ℕ → Tag
row_tag e = tag_in (op_in e)

-- the kind of a tag with these numbers
unfoldable pub kind_by : Tag → List ℕ → Kind
kind_by Tag.End e = End
kind_by Tag.Else e = Else
kind_by Tag.Pick e = Pick
kind_by Tag.Set e = Set (variable_in e) (start_in e)
kind_by Tag.Move e = Move (variable_in e) (step_in e)
kind_by Tag.Cue e = Cue (number e 3)
kind_by Tag.While e = While (variable_in e) (comparison_by (comparison_in e)) (limit_in e)
kind_by Tag.Do e = Do (variable_in e) (comparison_by (comparison_in e)) (limit_in e)
kind_by Tag.For e = For (variable_in e) (start_in e) (comparison_by (comparison_in e)) (limit_in e) (step_in e)
kind_by Tag.Off e = Off (variable_in e) (watched_in e) (comparison_by (comparison_in e)) (against_in e)
kind_by Tag.Hold e = Hold (variable_in e)

-- the kind of row that these numbers stand for
unfoldable pub kind_in : List ℕ → Kind
kind_in e = kind_by (row_tag e) e

-- the numbers of row i: four, from number 4 i on
abbrev pub numbers_at : List ℕ → ℕ → List ℕ
numbers_at t i = get_or t (4 * i + 0) 0 ∷ get_or t (4 * i + 1) 0 ∷ get_or t (4 * i + 2) 0 ∷ get_or t (4 * i + 3) 0 ∷ []

-- the numbers of all rows; fewer than four at the end are no row
unfoldable pub entries : List ℕ → List (List ℕ)
entries [] = []
entries (a ∷ []) = []
entries (a ∷ b ∷ []) = []
entries (a ∷ b ∷ c ∷ []) = []
entries (a ∷ b ∷ c ∷ d ∷ t) = (a ∷ b ∷ c ∷ d ∷ []) ∷ entries t

-- the row that four numbers stand for
abbrev pub row_in : List ℕ → Row
row_in e = record { kind = kind_in e }

-- the rows that a table holds
abbrev pub rows_of : List ℕ → List Row
rows_of t = map row_in (entries t)

-- the row that a read past the end gives
abbrev pub no_row : Row
no_row = record { kind = End }

-- the kind of row i
abbrev pub kind_at : List Row → ℕ → Kind
kind_at rows i = (get_or rows i no_row).kind

-- the table holds the first `count` rows
abbrev pub Packed : ℕ → List Row → List ℕ → Type 0
Packed count rows t = take count (rows_of t) ≡ take count rows
