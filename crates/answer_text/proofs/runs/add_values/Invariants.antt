use Rattle.answer_text.specs.Texts.{value_text}
use Rattle.answer_text.proofs.RunsLaws.{Listing}
use Rattle.answer_text.proofs.runs.add_values.Given as goal

abbrev pub invariant-loop-i : goal.invariant-loop-i
invariant-loop-i l = Listing value_text 22 l.store l.at l.initial.out l.out l.end l.i
