-- The union, one variable after the other.
use mathlib.Core.Path.{◌≡◌}
use native.Mathlib.Omega.{arith}
use borrow.Author.Rules.{rules}
use Rattle.analysis_steps.specs.Sets.{set_of}
use Rattle.analysis_steps.proofs.Sets.{joined_none, joined_next, joined_all}
use Rattle.analysis_steps.proofs.variable_set.VariableSet.extend.Goals as goal

pub loop-i-init : goal.loop-i-init
loop-i-init c = joined_none _ _

pub loop-i-preserved : goal.loop-i-preserved
unfolding set_of
loop-i-preserved c = let l = c.loop-i in joined_next _ _ l.i l.self (search rules) c.loop-i-test.true l.invariant

pub returns : goal.returns
returns c = let l = c.loop-i in let e : l.i ≡ 16 = omega (arith, l.invariant.some) in joined_all _ _ l.self (search rules) (rw e at l.invariant)
