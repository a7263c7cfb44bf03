use Rattle.std.proofs.Common.{◌∙◌, sym, add-one}
use Rattle.reading.proofs.Scanning.{operated, closed, too_closed, no_mark}
use Rattle.reading.proofs.questions.step_after.Goals as goal
use Rattle.reading.proofs.questions.step_after.Goals.{else-b-eq41-via-then-b-eq41+else-c-gt0, else-b-eq41-via-else-b-eq41}

pub returns-then-operates : goal.returns-then-operates
returns-then-operates c = let p = c.requires in rw (add-one, add-one) (operated _ _ _ p.1 p.0 (sym c.operates.ensures ∙ c.if-operates.true))

pub returns-then-c-gt0 : goal.returns-then-c-gt0
returns-then-c-gt0 c = let p = c.requires in rw add-one (closed _ _ _ p.1 p.0 c.if-b-eq41.true c.if-c-gt0.true)

pub returns : goal.returns
returns c =
    let p = c.requires in
    elim c.else-b-eq41.branch [
      | else-b-eq41-via-then-b-eq41+else-c-gt0 w ↦ too_closed _ _ _ p.1 p.0 w.if-b-eq41.true w.if-c-gt0.false
      | else-b-eq41-via-else-b-eq41 w ↦ no_mark _ _ _ p.1 p.0 (sym c.operates.ensures ∙ c.if-operates.false) w.if-b-eq41.false
    ]
