-- The block is added to the input.
use Rattle.season.proofs.read_block.Goals as goal

pub returns-in_default : goal.returns-in_default
returns-in_default g c = λ k. k

pub returns : goal.returns
returns g c = λ (input, h). (_, c.push_all-next.ensures input h)
