-- `analysis_steps::body_moves` meets its contract.
use borrow.Author.Rules.{rules}
use mathlib.Core.Path.{ap, ◌∙◌}
use Rattle.rules_steps.specs.Joins.{then}
use Rattle.table.specs.Code.{kind_at, rows_of}
use Rattle.table.proofs.Laws.{row_in}
use Rattle.analysis_steps.proofs.Walking.{ready}
use Rattle.analysis_steps.proofs.Stepping.{row_room}
use Rattle.analysis_steps.proofs.Moving.{near_room, body_of}
use Rattle.analysis_steps.proofs.body_moves.Goals as goal

pub insert_assigned-requires : goal.insert_assigned-requires
insert_assigned-requires c = let (text, l) = c.requires.0 in (row_in c.args.rows.now _ (search rules), l.ready.fine _ l.inside)

pub row_step-requires : goal.row_step-requires
row_step-requires c = let (text, l) = c.requires.0 in (row_in c.args.rows.now _ (search rules), l.ready.fine _ l.inside)

pub then-step-requires : goal.then-step-requires
then-step-requires c =
    let (text, l) = c.requires.0 in
    (near_room l.ready.few (c.moves_of-body.ensures text (ready l.ready (search rules))), rw (c.row_step.ensures text) (row_room c.args.v text (kind_at (rows_of c.args.rows.now) c.args.i) (l.ready.fine _ l.inside)))

pub returns : goal.returns
returns c = λ text l. body_of l c.new-set.ensures (c.moves_of-body.ensures text (ready l.ready (search rules))) (c.insert_assigned.ensures text) (c.then-step.ensures ∙ ap (then c.moves_of-body.result.step) (c.row_step.ensures text))
