use Rattle.std.proofs.Common.{◌≡◌, ◌≤◌}
use Rattle.rules.specs.Parse.{parse}
use Rattle.rules.specs.File.{asks_expr}
use Rattle.reading.specs.Asking.{scan_question, bytes_ahead}
use Rattle.reading.proofs.questions.question.Given as goal

abbrev pub invariant-loop-c : goal.invariant-loop-c
invariant-loop-c l = (scan_question l.vars l.word l.c ≡ asks_expr l.vars (parse l.word)) × (l.c.depth ≤ l.c.at) × (l.c.ops ≤ l.c.at)

abbrev pub decreases-loop-c : goal.decreases-loop-c
decreases-loop-c l = bytes_ahead l.word l.c
