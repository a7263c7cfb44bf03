use mathlib.Core.Path.{◌≡◌}
use lib.ListN.{length}
use Rattle.line_causes.proofs.Laws.{WordsRead}
use Rattle.line_causes.proofs.cause_in.Given as goal

-- the words passed are what is wanted
abbrev pub invariant-loop-word : goal.invariant-loop-word
invariant-loop-word l = (l.count ≡ length l.yielded) × WordsRead l.shape l.lf l.line l.from l.at l.count
