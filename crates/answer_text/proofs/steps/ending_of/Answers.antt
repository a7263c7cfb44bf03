-- `steps::ending_of` meets its contract.
use Rattle.answer_text.proofs.StepTexts.{ending_ended, ending_range, ending_waits, ending_spent}
use Rattle.answer_text.proofs.steps.ending_of.Goals as goal

pub returns-then-status-eq-ENDED : goal.returns-then-status-eq-ENDED
returns-then-status-eq-ENDED c = ending_ended _ c.if-status-eq-ENDED.true

pub returns-then-status-eq-RANGE : goal.returns-then-status-eq-RANGE
returns-then-status-eq-RANGE c = ending_range _ c.if-status-eq-RANGE.true

pub returns-then-status-eq-WAITS : goal.returns-then-status-eq-WAITS
returns-then-status-eq-WAITS c = ending_waits _ c.if-status-eq-WAITS.true

pub returns : goal.returns
returns c = ending_spent _ c.if-status-eq-ENDED.false c.if-status-eq-RANGE.false c.if-status-eq-WAITS.false
