use lib.ListN.{length}
use Rattle.program_words.proofs.Drawn.{Drawing}
use Rattle.program_words.proofs.picks.put_drawn.Given as goal

abbrev pub invariant-loop-pick : goal.invariant-loop-pick
invariant-loop-pick l = Drawing l.seed (length l.fn.picks) l.pick-items l.pick-index l.x
