use Rattle.reading.proofs.Line.{Filled}
use Rattle.reading.proofs.text.line_words.Given as goal

abbrev pub invariant-loop-i : goal.invariant-loop-i
invariant-loop-i l = Filled l.s l.at l.tags l.values l.ends l.end l.i
