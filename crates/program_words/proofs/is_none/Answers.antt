-- `program_words::is_none` meets its contract.
use Rattle.program_words.specs.Words.{is_none}
use Rattle.program_words.proofs.Slices.{word_is}
use Rattle.program_words.proofs.is_none.Goals as goal

pub returns : goal.returns
unfolding is_none
returns c = word_is _ _ _ _ c.as_slice.ensures c.eq.ensures
