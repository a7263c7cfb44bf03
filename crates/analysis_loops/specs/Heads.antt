-- A for, and a loop's test.
use Rattle.std.specs.Prelude.{Bool, true, false, ◌≡◌, List, ℕ, ◌<◌}
use Rattle.rules.specs.Blocks.{Form, while, do_while, hold, for, expr_of}
use Rattle.rules.specs.declared.Kind.{Kind}
use Rattle.rules.specs.Written.{WrittenOperand, Written}
use Rattle.rules.specs.Bounds.{FineOperand}
use Rattle.analysis_steps.specs.Tree.{test_of}
use Rattle.analysis_loops.specs.declared.ways.LoopTest.{LoopTest}

-- a for
abbrev pub is_for : Form → Bool
is_for while = false
is_for do_while = false
is_for hold = false
is_for (for x) = true

-- the parts of a loop's test
pub record HeadOf (text : List ℕ) (k : Kind) (h : LoopTest) : Type 0 where
  pub tested : h.tested ≡ (test_of text k).tested
  pub comparison : h.comparison ≡ (test_of text k).comparison
  pub limit : expr_of text h.limit ≡ (test_of text k).limit
  pub small : h.tested < 16
  pub fine : FineOperand h.limit
  pub written : Written text k → WrittenOperand text h.limit
