-- What a word is read as: its bytes, its expression, its operand.
use Rattle.std.specs.Prelude.{◌≡◌, List, ℕ, ◌+◌, ◌-◌, ◌<◌, ◌≤◌, length, get_or}
use Rattle.rules.specs.declared.Word.{Word}
use Rattle.rules.specs.declared.Word.TheVariants.{Missing, Number, Variable, Compares, Keyword, Other}
use Rattle.rules.specs.declared.Operand.{Operand}
use Rattle.rules.specs.Expressions.{constant, variable}
use Rattle.rules.specs.Parse.{Parsed, parse, expr_in}
use Rattle.rules.specs.Values.{lowest, highest}
use Rattle.rules.specs.Written.{Composed}
use Rattle.rules.specs.File.{asks_number, asks_variable, asks_expr}
use Rattle.reading.specs.declared.text.LineWords.{LineWords}
use Rattle.reading.specs.Words.{line_word, line_text}

-- what is read of word k of a line as an expression
abbrev pub line_expr : List ℕ → LineWords → ℕ → Parsed
line_expr s l k = parse (line_text s l k)

-- a word, and what is read of it as an expression: the same constant or variable, or neither of them alone
abbrev pub Means : ℕ → Word → Parsed → Type 0
Means vars Missing p = asks_expr vars p ≡ 0 → Composed (expr_in p)
Means vars (Number z) p = (asks_expr vars p ≡ asks_number lowest highest (Number z)) × (asks_expr vars p ≡ 0 → expr_in p ≡ constant z)
Means vars (Variable v) p = (asks_expr vars p ≡ asks_variable vars (Variable v)) × (asks_expr vars p ≡ 0 → expr_in p ≡ variable v)
Means vars (Compares c) p = asks_expr vars p ≡ 0 → Composed (expr_in p)
Means vars (Keyword n) p = asks_expr vars p ≡ 0 → Composed (expr_in p)
Means vars Other p = asks_expr vars p ≡ 0 → Composed (expr_in p)

-- so is each word of a line of the text s, and it ends within it
pub record Meant (s : List ℕ) (vars : ℕ) (l : LineWords) : Type 0 where
  pub few : vars ≤ 16
  pub means : (k : ℕ) → k < 8 → Means vars (line_word l k) (line_expr s l k)
  pub long : (k : ℕ) → k < 8 → get_or l.ends (k + 1) 0 ≤ length s

-- a variable's number fits a byte
abbrev pub Small : Word → Type 0
Small Missing = Unit {0}
Small (Number z) = Unit {0}
Small (Variable v) = v < 256
Small (Compares c) = Unit {0}
Small (Keyword n) = Unit {0}
Small Other = Unit {0}

-- the operand of a word: a constant, a variable, or an expression that stands in the file
abbrev pub operand_at : ℕ → ℕ → ℕ → Word → Operand
operand_at base at end Missing = Operand.Expression (base + (at + 1)) (end - (at + 1))
operand_at base at end (Number z) = Operand.Constant z
operand_at base at end (Variable v) = Operand.Variable v
operand_at base at end (Compares c) = Operand.Expression (base + (at + 1)) (end - (at + 1))
operand_at base at end (Keyword n) = Operand.Expression (base + (at + 1)) (end - (at + 1))
operand_at base at end Other = Operand.Expression (base + (at + 1)) (end - (at + 1))

-- that of word k of a line
abbrev pub line_operand : ℕ → LineWords → ℕ → Operand
line_operand base l k = operand_at base (get_or l.ends k 0) (get_or l.ends (k + 1) 0) (line_word l k)

-- its place and length fit, and its variable
pub record OperandFits (base : ℕ) (l : LineWords) (k : ℕ) : Type 0 where
  pub some : get_or l.ends k 0 < get_or l.ends (k + 1) 0
  pub place : base + get_or l.ends (k + 1) 0 ≤ 16_384
  pub small : Small (line_word l k)
