-- `diftanew::step_numbers` meets its contract. Assumes nothing.
use Rattle.diftanew.specs.Numbers.{step_head, step_numbers}
use Rattle.diftanew.proofs.step_numbers.Goals as goal

pub returns : goal.returns
unfolding step_numbers step_head
returns c = c.put_counts.ensures
