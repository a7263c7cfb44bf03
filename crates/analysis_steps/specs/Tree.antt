-- The tree of the rows that code holds in an array: the block from any row on, the row that closes it, and what a row stands for.
use Rattle.std.specs.Prelude.{◌≡◌, List, [], ℕ, ◌+◌, ◌≤◌, ◌<◌, pos, length, take}
use Rattle.rules.specs.Expressions.{constant}
use Rattle.rules.specs.declared.Comparison.TheVariants.{Less}
use Rattle.rules.specs.declared.Row.{Row}
use Rattle.rules.specs.declared.Kind.{Kind}
use Rattle.rules.specs.Bounds.{Fine}
use Rattle.rules.specs.Written.{Written}
use Rattle.rules.specs.Blocks as blocks
use Rattle.rules.specs.Blocks.{RowKind, Test, test, Form, while, Last, no_step, View, is_plain, is_pick, is_else, is_end, is_loop, view_of, Block, to_end, parts, build, kind_of, kinds_of}
use Rattle.table.specs.Code.{kind_at}
use Rattle.table.specs.Shapes.{past_else}

-- the kinds of the first `count` rows
abbrev pub kinds : List ℕ → List Row → ℕ → List RowKind
kinds text rows count = take count (kinds_of text rows)

-- the block that starts at row i, and the row that closes it
abbrev pub block_at : List ℕ → List Row → ℕ → ℕ → Block
block_at text rows count i = blocks.block_at (kinds text rows count) i

-- the row that closes that block
abbrev pub end_at : List ℕ → List Row → ℕ → ℕ → ℕ
end_at text rows count i = blocks.end_at (kinds text rows count) i

-- the rows are a tree
pub record Whole (text : List ℕ) (rows : List Row) (count : ℕ) : Type 0 where
  pub tree : Block
  pub long : length (kinds text rows count) ≡ count
  pub builds : build 0 (kinds text rows count) ≡ parts (to_end (length (kinds text rows count)) tree) []

-- what a walk from row `at` asks: the rows are in the table and are a tree, and each is inside its limits and has its expressions in the text
pub record Ready (text : List ℕ) (rows : List Row) (count at : ℕ) : Type 0 where
  pub few : count ≤ 256
  pub reach : count ≤ length rows
  pub within : at ≤ count
  pub built : Whole text rows count
  pub fine : (i : ℕ) → i < count → Fine (kind_at rows i)
  pub written : (i : ℕ) → i < count → Written text (kind_at rows i)

-- what a walk over the block from row `at` gives: its answer for the block, and the row that closes the block
pub record Walked {A : Type 0} (text : List ℕ) (rows : List Row) (count at next : ℕ) (x : A) (answer : Block → A) : Type 0 where
  pub value : x ≡ answer (block_at text rows count at)
  pub place : next ≡ end_at text rows count at
  pub low : at ≤ next
  pub high : next ≤ count

-- a loop's head row: its form, its test and its body's last row
pub record LoopHead : Type 0 where
  pub form : Form
  pub test : Test
  pub last : Last

-- what is not read of a row that is no loop's head
abbrev pub no_loop : LoopHead
no_loop = record { form = while; test = test 0 Less (constant (pos 0)); last = no_step }

-- the head that a row is
abbrev pub head_by : View → LoopHead
head_by (is_plain p) = no_loop
head_by is_pick = no_loop
head_by is_else = no_loop
head_by is_end = no_loop
head_by (is_loop form test last) = record { form = form; test = test; last = last }

-- the head that a row of this kind is
unfoldable pub head_of : List ℕ → Kind → LoopHead
head_of text k = head_by (view_of (kind_of text k))

-- its form
abbrev pub form_of : List ℕ → Kind → Form
form_of text k = (head_of text k).form

-- its test
abbrev pub test_of : List ℕ → Kind → Test
test_of text k = (head_of text k).test

-- a for's step row ends its body
abbrev pub with_last_of : List ℕ → Kind → ℕ → Block → Block
with_last_of text k i b = blocks.with_last (head_of text k).last i b

-- where the second part of the pick at row i starts: at the row after its else, or at its end
abbrev pub second_at : List ℕ → List Row → ℕ → ℕ → ℕ
second_at text rows count i = past_else (kind_at rows (end_at text rows count (i + 1))) (end_at text rows count (i + 1))
