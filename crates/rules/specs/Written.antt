-- Where code's rows point into the file's text: the place and length of an expression.
use Rattle.std.specs.Prelude.{◌≡◌, List, ℕ, ◌+◌, ◌≤◌, length, take, drop}
use Rattle.rules.specs.declared.Operand.{Operand}
use Rattle.rules.specs.declared.Operand.TheVariants.{Constant, Variable, Expression}
use Rattle.rules.specs.declared.Kind.{Kind}
use Rattle.rules.specs.declared.Kind.TheVariants.{Set, Move, Cue, Pick, Else, End, While, Do, For, Off, Hold}
use Rattle.rules.specs.Expressions.{Expr, constant, variable, group, apply}
use Rattle.rules.specs.Parse.{parse, expr_in}
use Rattle.rules.specs.File.{asks_expr}

-- a word that the questions 3, 17, 4 and 5 have passed as an expression
pub record PassedWord (word : List ℕ) : Type 0 where
  pub vars : ℕ
  pub few : vars ≤ 16
  pub asks : asks_expr vars (parse word) ≡ 0

-- "an operator or a parenthesis makes it neither" a variable nor a constant
unfoldable pub Composed : Expr → Type 0
Composed (constant k) = ⊥
Composed (variable w) = ⊥
Composed (group x) = Unit {0}
Composed (apply o x y) = Unit {0}

-- n bytes of the text from `at` on are an expression that has passed its questions, and neither a constant nor a variable
pub record InText (text : List ℕ) (at n : ℕ) : Type 0 where
  pub within : at + n ≤ length text
  pub passed : PassedWord (take n (drop at text))
  pub composed : Composed (expr_in (parse (take n (drop at text))))

-- an operand's expression stands in the text
abbrev pub WrittenOperand : List ℕ → Operand → Type 0
WrittenOperand text (Constant k) = Unit {0}
WrittenOperand text (Variable w) = Unit {0}
WrittenOperand text (Expression at n) = InText text at n

-- the expressions of a row do
abbrev pub Written : List ℕ → Kind → Type 0
Written text (Set v x) = WrittenOperand text x
Written text (Move v c) = Unit {0}
Written text (Off v w c k) = Unit {0}
Written text (Cue n) = Unit {0}
Written text Pick = Unit {0}
Written text Else = Unit {0}
Written text End = Unit {0}
Written text (While v c x) = WrittenOperand text x
Written text (Do v c x) = WrittenOperand text x
Written text (For v s c x d) = WrittenOperand text s × WrittenOperand text x
Written text (Hold v) = Unit {0}
