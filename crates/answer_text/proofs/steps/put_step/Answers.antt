-- `steps::put_step` meets its contract.
use native.Mathlib.Omega.{arith}
use lib.ListN.{length-append}
use Rattle.answer_text.proofs.ReportsLaws.{refusal_line, refusal_room}
use Rattle.answer_text.specs.Steps.{step_text}
use Rattle.answer_text.proofs.steps.put_step.Goals as goal

pub returns-in-Ok : goal.returns-in-Ok
unfolding step_text
returns-in-Ok c = rw c.in-Ok.is c.put_done.ensures

pub returns-in-Err : goal.returns-in-Err
unfolding step_text
returns-in-Err c =
    rw c.in-Err.is (c.put_refusal.ensures, omega (arith, c.put_refusal.ensures.count, refusal_room c.in-Err.refusal.number c.in-Err.refusal.place, simp (refusal_line, length-append) at c.put_refusal.ensures.count))
