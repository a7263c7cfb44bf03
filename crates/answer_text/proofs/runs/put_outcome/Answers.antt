-- `runs::put_outcome` meets its contract.
use native.Mathlib.Omega.{arith}
use lib.ListN.{length-append}
use Rattle.answer_text.proofs.ReportsLaws.{refusal_line, refusal_room}
use Rattle.answer_text.specs.Texts.{outcome_text}
use Rattle.answer_text.proofs.runs.put_outcome.Goals as goal

pub returns-in-Ok : goal.returns-in-Ok
unfolding outcome_text
returns-in-Ok c = rw c.in-Ok.is c.put_run.ensures

pub returns-in-Err : goal.returns-in-Err
unfolding outcome_text
returns-in-Err c =
    rw c.in-Err.is (c.put_refusal.ensures, omega (arith, c.put_refusal.ensures.count, refusal_room c.in-Err.refusal.number c.in-Err.refusal.place, simp (refusal_line, length-append) at c.put_refusal.ensures.count))
