-- A row put into the table: its numbers stand for its kind, and every other row keeps its numbers.
use Rattle.std.specs.Prelude.{◌≡◌, List, ℕ, ◌/◌, ◌%◌, ◌≤◌, ◌<◌, pos, length}
use Rattle.rules.specs.declared.Kind.{Kind}
use Rattle.rules.specs.declared.Kind.TheVariants.{Set, Move, Cue, Pick, Else, End, While, Do, For, Off, Hold}
use Rattle.rules.specs.declared.Operand.{Operand}
use Rattle.rules.specs.declared.Operand.TheVariants.{Constant}
use Rattle.rules.specs.declared.Comparison.{Comparison}
use Rattle.rules.specs.declared.Comparison.TheVariants.{Different}
use Rattle.rules.specs.declared.Change.{Change}
use Rattle.table.specs.declared.OperandCode.{OperandCode}
use Rattle.table.specs.Code.{operand_in, comparison_by, change_in, number, op_in, variable_in, comparison_in, partner_in, limit_in, step_in, kind_in, numbers_at}

-- the kind and value of an operand
pub record OperandCoded (x : Operand) (r : OperandCode) : Type 0 where
  pub same : operand_in r.kind r.value ≡ x
  pub small : r.kind < 3

-- a number that is the code of a comparison
abbrev pub IsComparison : ℕ → Type 0
IsComparison n = (1 ≤ n) × (n ≤ 6)

-- the code of this comparison
pub record ComparisonCoded (c : Comparison) (r : ℕ) : Type 0 where
  pub same : comparison_by r ≡ c
  pub code : IsComparison r

-- the kind and number of a change
pub record ChangeCoded (d : Change) (r : OperandCode) : Type 0 where
  pub same : change_in r.kind r.value ≡ d
  pub small : r.kind < 4

-- a first number with these fields and no partner
pub record FirstIs (op v c limit change w : ℕ) : Type 0 where
  pub op_is : w % 256 ≡ op
  pub variable_is : w / 256 % 256 ≡ v
  pub comparison_is : w / 65_536 % 8 ≡ c
  pub limit_is : w / 524_288 % 4 ≡ limit
  pub change_is : w / 2_097_152 % 4 ≡ change
  pub no_partner : w / 16_777_216 ≡ 0

-- numbers that tell a test
pub record TestIn (v : ℕ) (c : Comparison) (x : Operand) (e : List ℕ) : Type 0 where
  pub variable : variable_in e ≡ v
  pub comparison : comparison_by (comparison_in e) ≡ c
  pub code : IsComparison (comparison_in e)
  pub limit : limit_in e ≡ x

-- numbers that tell the test of a row that has one, the step of a for, and by its op a change; change 12: a hold is "turning while v0 is not 0"
abbrev pub TestOf : Kind → List ℕ → Type 0
TestOf End e = Unit {0}
TestOf Else e = Unit {0}
TestOf Pick e = Unit {0}
TestOf (Set v x) e = Unit {0}
TestOf (Move v d) e = change_in (op_in e % 4) (number e 3) ≡ d
TestOf (Off v w c k) e = IsComparison (comparison_in e)
TestOf (Cue n) e = Unit {0}
TestOf (While v c x) e = TestIn v c x e
TestOf (Do v c x) e = TestIn v c x e
TestOf (For v s c x d) e = TestIn v c x e × (step_in e ≡ d)
TestOf (Hold v) e = TestIn v Different (Constant (pos 0)) e

-- the numbers of a while, a do or a hold, by its op
pub record TestRow (op v : ℕ) (c : Comparison) (x : Operand) (e : List ℕ) : Type 0 where
  pub op_is : op_in e ≡ op
  pub test : TestIn v c x e
  pub no_partner : partner_in e ≡ 0

-- numbers that stand for a row, with no partner yet
pub record Stands (k : Kind) (e : List ℕ) : Type 0 where
  pub kind : kind_in e ≡ k
  pub test : TestOf k e
  pub no_partner : partner_in e ≡ 0

-- no row but row i has changed
pub record Only (i : ℕ) (t t' : List ℕ) : Type 0 where
  pub size : length t' ≡ length t
  pub others : (k : ℕ) → (k ≡ i → ⊥) → numbers_at t' k ≡ numbers_at t k

-- row i has become these numbers
pub record NumbersPut (i : ℕ) (e t t' : List ℕ) : Type 0 where
  pub row : numbers_at t' i ≡ e
  pub only : Only i t t'

-- row i has become a row of this kind
pub record RowPut (i : ℕ) (k : Kind) (t t' : List ℕ) : Type 0 where
  pub row : Stands k (numbers_at t' i)
  pub only : Only i t t'
