use Rattle.std.proofs.Common.{arith}
use Rattle.expressions.proofs.LeavesLaws.{digit_low}
use Rattle.expressions.proofs.leaves.more.Goals as goal

pub overflow_sub-b : goal.overflow_sub-b
overflow_sub-b c = omega (arith, digit_low c.args.b c.requires.1)
