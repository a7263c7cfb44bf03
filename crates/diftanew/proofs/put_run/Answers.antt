-- `diftanew::put_run` meets its contract. Assumes nothing.
use Rattle.diftanew.specs.Numbers.{head_numbers, numbers_of}
use Rattle.diftanew.proofs.put_run.Goals as goal

pub returns : goal.returns
unfolding numbers_of head_numbers
returns c = rw (← c.ending_number.ensures) c.put_counts.ensures
