-- The open blocks of an array, as the rules' list.
use Rattle.std.specs.Prelude.{List, [], ◌∷◌, ℕ, zero, suc, ◌≤◌, get_or, Result, Ok, Err}
use Rattle.rules.specs.Nesting.{Open, in_loop, in_pick, in_else, Nest, Nested, nested, wrong}
use Rattle.reader.specs.declared.nesting.Block.{Block}
use Rattle.reader.specs.declared.nesting.BlockQuestion.{BlockQuestion}
use Rattle.reader.specs.declared.nesting.Blocks.{Blocks}

-- a question's number in the documents
abbrev pub block_number : BlockQuestion → ℕ
block_number BlockQuestion.Fit = 6
block_number BlockQuestion.Depth = 7

-- a block of the rules
abbrev pub open_of : Block → Open
open_of Block.Loop = in_loop
open_of Block.Pick = in_pick
open_of Block.AfterElse = in_else

-- the first d of them, innermost first
unfoldable pub blocks_open : ℕ → List Block → List Open
blocks_open zero kinds = []
blocks_open (suc d) kinds = open_of (get_or kinds d Block.Loop) ∷ blocks_open d kinds

-- the open blocks and the loops so far
unfoldable pub nest_of : Blocks → Nest
nest_of b = record { open_blocks = blocks_open b.depth b.kinds; loops = b.loops }

-- the blocks after a row, or the question that has no
abbrev pub nested_of : Result Blocks BlockQuestion → Nested
nested_of (Ok b) = nested (nest_of b)
nested_of (Err q) = wrong (block_number q)

-- what the code's counts need
pub record Shallow (b : Blocks) : Type 0 where
  pub deep : b.depth ≤ 8
  pub many : b.loops ≤ 16

-- of the blocks after a row
abbrev pub StaysShallow : Result Blocks BlockQuestion → Type 0
StaysShallow (Ok b) = Shallow b
StaysShallow (Err q) = Unit {0}
