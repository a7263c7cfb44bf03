-- Sets of variables as functions of a variable's number.
use Rattle.std.specs.Prelude.{Bool, false, ◌||◌, ℕ, eqb, get_or}
use Rattle.rules.specs.Blocks.{Plain, Block}
use Rattle.rules.specs.Steps.{sets, assigns}
use Rattle.analysis_steps.specs.declared.variable_set.VariableSet.{VariableSet}

-- whether w is in the set
unfoldable pub set_of : VariableSet → ℕ → Bool
set_of s w = get_or s.has w false

-- with one variable more
unfoldable pub with_one : (ℕ → Bool) → ℕ → ℕ → Bool
with_one x v w = x w || eqb w v

-- with the variable that a row assigns
unfoldable pub with_row : (ℕ → Bool) → Plain → ℕ → Bool
with_row x p w = x w || sets w p

-- with the variables that a block assigns
unfoldable pub assigns_from : (ℕ → Bool) → Block → ℕ → Bool
assigns_from x b w = x w || assigns w b

-- the variables of two sets
unfoldable pub both_of : (ℕ → Bool) → (ℕ → Bool) → ℕ → Bool
both_of x y w = x w || y w

-- no variable
unfoldable pub none : ℕ → Bool
none w = false
