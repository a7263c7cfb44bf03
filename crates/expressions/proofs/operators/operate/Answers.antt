use mir.Facts.{to_z-of_z}
use Rattle.rules.specs.Expressions.{operate}
use Rattle.expressions.proofs.Wide.{wide}
use Rattle.expressions.proofs.operators.operate.Goals as goal

pub returns-in-Add : goal.returns-in-Add
unfolding operate
returns-in-Add c = let h = wide c.args.x c.args.y c.ranges.x c.ranges.y in rw c.in-Add.is (simp (to_z-of_z h.x32, to_z-of_z h.y32, to_z-of_z h.x64, to_z-of_z h.y64, to_z-of_z h.sum))

pub returns-in-Sub : goal.returns-in-Sub
unfolding operate
returns-in-Sub c = let h = wide c.args.x c.args.y c.ranges.x c.ranges.y in rw c.in-Sub.is (simp (to_z-of_z h.x32, to_z-of_z h.y32, to_z-of_z h.x64, to_z-of_z h.y64, to_z-of_z h.difference))

pub returns-in-Mul : goal.returns-in-Mul
unfolding operate
returns-in-Mul c = let h = wide c.args.x c.args.y c.ranges.x c.ranges.y in rw c.in-Mul.is (simp (to_z-of_z h.x32, to_z-of_z h.y32, to_z-of_z h.x64, to_z-of_z h.y64, to_z-of_z h.product))
