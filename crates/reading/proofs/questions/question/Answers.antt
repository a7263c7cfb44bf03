use Rattle.std.proofs.Common.{◌∙◌, arith}
use Rattle.reading.specs.Asking.{scan_question}
use Rattle.reading.proofs.Asking.{walk_asks}
use Rattle.reading.proofs.Scanning.{at_the_end}
use Rattle.reading.proofs.questions.question.Goals as goal

pub loop-c-init : goal.loop-c-init
unfolding scan_question
loop-c-init c = (walk_asks _ _, omega arith, omega arith)

pub returns : goal.returns
returns c = c.verdict.ensures ∙ at_the_end _ _ _ c.loop-c-test.false ∙ c.loop-c.invariant.0
