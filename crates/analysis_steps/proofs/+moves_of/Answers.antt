-- `analysis_steps::moves_of` meets its contract: what the rows walked do, and the block that is left.
use borrow.Author.Rules.{rules}
use mathlib.Core.Path.{◌≡◌, sym, ap, ◌∙◌}
use Rattle.rules_steps.specs.declared.Step.TheVariants.{Unknown}
use Rattle.rules_steps.specs.Joins.{then}
use Rattle.rules.specs.Steps.{row_step}
use Rattle.analysis_steps.proofs.Ends.{ends_only}
use Rattle.table.specs.Code.{kind_at, rows_of}
use Rattle.table.specs.Shapes.{plain_of}
use Rattle.table.proofs.Laws.{row_in}
use Rattle.analysis_steps.proofs.Walking.{ready, pick_at, loop_at, first_part, second_part}
use Rattle.analysis_steps.proofs.Stepping.{room, row_room, pick_room, step_stays}
use Rattle.analysis_steps.proofs.Moving.{begins, with_plain, with_pick, with_loop, closes, ends}
use Rattle.analysis_steps.proofs.+moves_of.Goals as goal
use Rattle.analysis_steps.proofs.+moves_of.Goals.{then-sets_it, else-sets_it}

pub loop-i-init : goal.loop-i-init
loop-i-init t c = λ text r. begins _ _ _ _ _ r

pub shape_at-requires : goal.shape_at-requires
shape_at-requires t c = let (text, r) = c.requires.0 in row_in c.args.rows.now _ (search rules)

pub insert_assigned-requires : goal.insert_assigned-requires
insert_assigned-requires t c = let (text, r) = c.requires.0 in (row_in c.args.rows.now _ (search rules), r.fine _ c.loop-i-test.true)

pub sets_it-requires : goal.sets_it-requires
sets_it-requires t c = let (text, r) = c.requires.0 in row_in c.args.rows.now _ (search rules)

pub row_step-requires : goal.row_step-requires
row_step-requires t c = let (text, r) = c.requires.0 in (row_in c.args.rows.now _ (search rules), r.fine _ c.loop-i-test.true)

pub then-step-requires : goal.then-step-requires
then-step-requires t c =
    let (text, r) = c.requires.0 in
    (room _ _ _ _ r (c.loop-i.invariant text r).moves, rw (c.row_step.ensures text) (row_room c.args.v text (kind_at (rows_of c.args.rows.now) c.loop-i.i) (r.fine _ c.loop-i-test.true)))

pub loop-i-preserved-in-Plain : goal.loop-i-preserved-in-Plain
loop-i-preserved-in-Plain t c = λ text r.
    let s = c.loop-i.step in
    let v = c.args.v in
    let p = plain_of text (kind_at (rows_of c.args.rows.now) c.loop-i.i) in
    let e : c.if-sets_it.step ≡ then s (row_step v p) = elim c.if-sets_it.branch [
      | then-sets_it w ↦ w.step-is ∙ w.then-step.ensures ∙ ap (then s) (w.row_step.ensures text)
      | else-sets_it w ↦ w.step-is ∙ sym (step_stays s v p (sym (c.sets_it.ensures text) ∙ w.if-sets_it.false))
    ] in
    with_plain _ _ _ _ _ r (c.loop-i.invariant text r) c.loop-i-test.true (sym c.shape_at.ensures ∙ c.in-Plain.is) (c.insert_assigned.ensures text) e

pub moves_of-first-requires : goal.moves_of-first-requires
moves_of-first-requires t c = let (text, r) = c.requires.0 in let k = c.loop-i.invariant text r in (search rules, ((text, ready r (search rules)), search rules))

pub past_else-requires : goal.past_else-requires
past_else-requires t c =
    let (text, r) = c.requires.0 in
    let k = first_part r c.loop-i-test.true (sym c.shape_at.ensures ∙ c.in-Branch.is) (c.moves_of-first.ensures text (ready r (search rules))).sets.place in
    row_in c.args.rows.now _ (search rules)

pub moves_of-second-requires : goal.moves_of-second-requires
moves_of-second-requires t c =
    let (text, r) = c.requires.0 in
    let w = c.loop-i.invariant text r in
    let h = sym c.shape_at.ensures ∙ c.in-Branch.is in
    let f = c.moves_of-first.ensures text (ready r (search rules)) in
    let k = first_part r c.loop-i-test.true h f.sets.place in
    let e = c.past_else.ensures in
    (search rules, ((text, second_part r c.loop-i-test.true h f.sets.place e), search rules))

pub then-step-requires-in-Branch : goal.then-step-requires-in-Branch
then-step-requires-in-Branch t c =
    let (text, r) = c.requires.0 in
    let k = (c.loop-i.invariant text r).moves in
    let h = sym c.shape_at.ensures ∙ c.in-Branch.is in
    let f = c.moves_of-first.ensures text (ready r (search rules)) in
    let g = c.moves_of-second.ensures text (second_part r c.loop-i-test.true h f.sets.place c.past_else.ensures) in
    let u = pick_at _ _ _ c.loop-i-test.true r.built h f.sets.place c.past_else.ensures g.sets.place in
    (room _ _ _ _ r k, rw c.either.ensures (pick_room _ _ _ _ r k c.loop-i-test.true u (f.moves, f.near) (g.moves, g.near)))

pub overflow_add-i-in-Branch-2 : goal.overflow_add-i-in-Branch-2
overflow_add-i-in-Branch-2 t c =
    let (text, r) = c.requires.0 in
    let h = sym c.shape_at.ensures ∙ c.in-Branch.is in
    let f = c.moves_of-first.ensures text (ready r (search rules)) in
    let g = c.moves_of-second.ensures text (second_part r c.loop-i-test.true h f.sets.place c.past_else.ensures) in
    let u = pick_at _ _ _ c.loop-i-test.true r.built h f.sets.place c.past_else.ensures g.sets.place in
    let few = r.few in
    search rules

pub loop-i-smaller-in-Branch : goal.loop-i-smaller-in-Branch
loop-i-smaller-in-Branch t c =
    let (text, r) = c.requires.0 in
    let h = sym c.shape_at.ensures ∙ c.in-Branch.is in
    let f = c.moves_of-first.ensures text (ready r (search rules)) in
    let g = c.moves_of-second.ensures text (second_part r c.loop-i-test.true h f.sets.place c.past_else.ensures) in
    let u = pick_at _ _ _ c.loop-i-test.true r.built h f.sets.place c.past_else.ensures g.sets.place in
    search rules

pub loop-i-preserved-in-Branch : goal.loop-i-preserved-in-Branch
loop-i-preserved-in-Branch t c = λ text r.
    let h = sym c.shape_at.ensures ∙ c.in-Branch.is in
    let f = c.moves_of-first.ensures text (ready r (search rules)) in
    let g = c.moves_of-second.ensures text (second_part r c.loop-i-test.true h f.sets.place c.past_else.ensures) in
    let u = pick_at _ _ _ c.loop-i-test.true r.built h f.sets.place c.past_else.ensures g.sets.place in
    with_pick _ _ _ _ _ r (c.loop-i.invariant text r) c.loop-i-test.true u f g (c.then-step-in-Branch.ensures ∙ ap (then c.loop-i.step) c.either.ensures)

pub moves_of-body-requires : goal.moves_of-body-requires
moves_of-body-requires t c = let (text, r) = c.requires.0 in let k = c.loop-i.invariant text r in (search rules, ((text, ready r (search rules)), search rules))

pub insert_assigned-requires-in-Loop : goal.insert_assigned-requires-in-Loop
insert_assigned-requires-in-Loop t c = let (text, r) = c.requires.0 in (row_in c.args.rows.now _ (search rules), r.fine _ c.loop-i-test.true)

pub then-step-requires-in-Loop : goal.then-step-requires-in-Loop
then-step-requires-in-Loop t c = let (text, r) = c.requires.0 in (room _ _ _ _ r (c.loop-i.invariant text r).moves, rw c.only.ensures (ends_only 512 c.contains.result Unknown tt))

pub overflow_add-i-in-Loop-2 : goal.overflow_add-i-in-Loop-2
overflow_add-i-in-Loop-2 t c =
    let (text, r) = c.requires.0 in
    let k = loop_at _ _ _ c.loop-i-test.true r.built (sym c.shape_at.ensures ∙ c.in-Loop.is) (c.moves_of-body.ensures text (ready r (search rules))).sets.place in
    let f = r.few in
    search rules

pub loop-i-smaller : goal.loop-i-smaller
loop-i-smaller t c =
    let (text, r) = c.requires.0 in
    let k = loop_at _ _ _ c.loop-i-test.true r.built (sym c.shape_at.ensures ∙ c.in-Loop.is) (c.moves_of-body.ensures text (ready r (search rules))).sets.place in
    search rules

pub loop-i-preserved : goal.loop-i-preserved
loop-i-preserved t c = λ text r.
    let h = sym c.shape_at.ensures ∙ c.in-Loop.is in
    let f = c.moves_of-body.ensures text (ready r (search rules)) in
    with_loop _ _ _ _ _ r (c.loop-i.invariant text r) c.loop-i-test.true (loop_at _ _ _ c.loop-i-test.true r.built h f.sets.place) h c.new-inner.ensures f _ (c.insert_assigned-in-Loop.ensures text) c.extend.ensures c.contains.ensures (c.then-step-in-Loop.ensures ∙ ap (then c.loop-i.step) c.only.ensures)

pub returns-in-Close : goal.returns-in-Close
returns-in-Close t c = λ text r. closes _ _ _ _ _ r (c.loop-i.invariant text r) c.loop-i-test.true (sym c.shape_at.ensures ∙ c.in-Close.is)

pub returns : goal.returns
returns t c = λ text r. ends _ _ _ _ _ r (c.loop-i.invariant text r) c.loop-i-test.false
