use Rattle.answer_text.proofs.RunsLaws.{Counting}
use Rattle.answer_text.proofs.runs.add_counts.Given as goal

abbrev pub invariant-loop-i : goal.invariant-loop-i
invariant-loop-i l = Counting l.counts l.at l.initial.out l.out l.end l.i
