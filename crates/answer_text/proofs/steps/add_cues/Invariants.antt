use Rattle.answer_text.specs.Steps.{cue_text}
use Rattle.answer_text.proofs.RunsLaws.{Listing}
use Rattle.answer_text.proofs.steps.add_cues.Given as goal

abbrev pub invariant-loop-i : goal.invariant-loop-i
invariant-loop-i l = Listing cue_text 21 l.cues l.at l.initial.out l.out l.end l.i
