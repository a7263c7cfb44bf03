-- The only assignment of a variable, as the code finds it.
use Rattle.std.specs.Prelude.{◌≡◌, Bool, true, List, ℕ, Option, Some, None, ◌+◌, ◌<◌}
use Rattle.rules.specs.declared.Row.{Row}
use Rattle.rules.specs.Expressions.{variable}
use Rattle.rules.specs.Blocks.{Source, from, off, Block}
use Rattle.rules.specs.Steps as rules
use Rattle.rules.specs.Steps.{sets, other, sole, behind, sole_at, sole_row, sole_of}
use Rattle.table.specs.Code.{kind_at}
use Rattle.table.specs.Shapes.{plain_of}
use Rattle.analysis_steps.specs.declared.only_rows.Read.{Read}
use Rattle.analysis_steps.specs.declared.only_rows.SoleRead.{SoleRead}
use Rattle.analysis_steps.specs.declared.variable_set.VariableSet.{VariableSet}
use Rattle.analysis_steps.specs.Tree.{Ready, block_at}
use Rattle.analysis_steps.specs.Sets.{set_of}

-- what the row assigns, w the variable that it reads
abbrev pub source_of : ℕ → Read → Source
source_of w Read.Copy = from (variable w)
source_of w (Read.Off c k) = off w c k

-- the definition's answer
abbrev pub sole_is : Option SoleRead → rules.Sole
sole_is None = other
sole_is (Some r) = sole r.other (source_of r.other r.read) r.before r.after

-- the variable that is read is one of the 16
abbrev pub SmallSole : Option SoleRead → Type 0
SmallSole None = Unit {0}
SmallSole (Some r) = r.other < 16

-- with rows in front that assign a set
unfoldable pub sole_from : ℕ → (ℕ → Bool) → Block → rules.Sole
sole_from v x b = behind x v (sole_of v b)

-- a plain row at i assigns v
pub record AtRow (text : List ℕ) (rows : List Row) (count i v : ℕ) : Type 0 where
  pub ready : Ready text rows count i
  pub inside : i < count
  pub own : sets v (plain_of text (kind_at rows i)) ≡ true
  pub small : v < 16

-- the row at i assigns v and reads w
pub record AtRead (text : List ℕ) (rows : List Row) (count i v w : ℕ) (x : Read) : Type 0 where
  pub ready : Ready text rows count i
  pub inside : i < count
  pub small : v < 16
  pub other : w < 16
  pub reads : (rest : Block) → sole_row v (plain_of text (kind_at rows i)) rest ≡ sole_at v w (source_of w x) rest

-- what is found at a row that assigns v, behind rows that assign a set
pub record ReadAt (text : List ℕ) (rows : List Row) (count i v : ℕ) (before : VariableSet) (r : Option SoleRead) : Type 0 where
  pub value : sole_is r ≡ behind (set_of before) v (sole_row v (plain_of text (kind_at rows i)) (block_at text rows count (i + 1)))
  pub small : SmallSole r

-- what is found in the block from row `at` on
pub record SoleAt (text : List ℕ) (rows : List Row) (count at v : ℕ) (r : Option SoleRead) : Type 0 where
  pub value : sole_is r ≡ sole_of v (block_at text rows count at)
  pub small : SmallSole r
