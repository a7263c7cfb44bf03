-- The names in the word's text.
use Rattle.analysis_steps.specs.Sets.{set_of}
use Rattle.analysis_intervals.proofs.Words.{width}
use Rattle.analysis_loops.proofs.ways.word_keeps.Goals as goal

pub returns : goal.returns
unfolding set_of
returns c = rw (width _ _) at c.keeps_in.ensures
