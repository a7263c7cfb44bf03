-- `analysis_steps::only_rows::sole_of` meets its contract: what the rows walked assign, and the block that is left.
use borrow.Author.Rules.{rules}
use mathlib.Core.Path.{sym, ◌∙◌}
use Rattle.table.proofs.Laws.{row_in}
use Rattle.analysis_steps.proofs.Walking.{ready, pick_at, loop_at, first_part, second_part, begin, plain_row, plain_next, pick_row, loop_row, at_close, at_last}
use Rattle.analysis_steps.proofs.Soles.{from_nothing, sole_done, sole_past, sole_here, sole_pick, sole_loop}
use Rattle.analysis_steps.proofs.only_rows.sole_of.Goals as goal

pub loop-i-init : goal.loop-i-init
loop-i-init c = λ text r. begin _ _ _ _ _ r.within

pub sole_at-requires : goal.sole_at-requires
sole_at-requires c = let (text, r) = c.requires.0 in (text, record { ready = ready r (search rules); inside = c.loop-i-test.true; own = sym (c.sets_it.ensures text) ∙ c.if-sets_it.true; small = c.requires.1 })

pub returns-then-sets_it : goal.returns-then-sets_it
returns-then-sets_it c = λ text p.
    let own = sym (c.sets_it.ensures text) ∙ c.if-sets_it.true in
    let r = c.sole_at.ensures text (record { ready = ready p (search rules); inside = c.loop-i-test.true; own = own; small = c.requires.1 }) in
    record {
      value = r.value ∙ sym (plain_next _ _ _ _ _ (c.loop-i.invariant text p) c.loop-i-test.true p.built (sym c.shape_at.ensures ∙ c.in-Plain.is) ∙ sole_here _ _ _ _ own _) ∙ from_nothing _ c.new-set.ensures _;
      small = r.small;
    }

pub insert_assigned-requires : goal.insert_assigned-requires
insert_assigned-requires c = let (text, r) = c.requires.0 in (row_in c.args.rows.now _ (search rules), r.fine _ c.loop-i-test.true)

pub loop-i-preserved-in-Plain : goal.loop-i-preserved-in-Plain
loop-i-preserved-in-Plain c = λ text r. rw (c.insert_assigned.ensures text) (plain_row _ _ _ _ _ (c.loop-i.invariant text r) c.loop-i-test.true r.built (sym c.shape_at.ensures ∙ c.in-Plain.is) (sole_past _ _ _ _ (sym (c.sets_it.ensures text) ∙ c.if-sets_it.false)))

pub moves_of-first-requires : goal.moves_of-first-requires
moves_of-first-requires c = let (text, r) = c.requires.0 in ((text, ready r (search rules)), c.requires.1)

pub past_else-requires : goal.past_else-requires
past_else-requires c =
    let (text, r) = c.requires.0 in
    let h = sym c.shape_at.ensures ∙ c.in-Branch.is in
    let f = c.moves_of-first.ensures text (ready r (search rules)) in
    let k = first_part r c.loop-i-test.true h f.sets.place in
    row_in c.args.rows.now _ (search rules)

pub moves_of-second-requires : goal.moves_of-second-requires
moves_of-second-requires c =
    let (text, r) = c.requires.0 in
    let h = sym c.shape_at.ensures ∙ c.in-Branch.is in
    let f = c.moves_of-first.ensures text (ready r (search rules)) in
    ((text, second_part r c.loop-i-test.true h f.sets.place c.past_else.ensures), c.requires.1)

pub overflow_add-i-in-Branch-2 : goal.overflow_add-i-in-Branch-2
overflow_add-i-in-Branch-2 c =
    let (text, r) = c.requires.0 in
    let h = sym c.shape_at.ensures ∙ c.in-Branch.is in
    let f = c.moves_of-first.ensures text (ready r (search rules)) in
    let g = c.moves_of-second.ensures text (second_part r c.loop-i-test.true h f.sets.place c.past_else.ensures) in
    let u = pick_at _ _ _ c.loop-i-test.true r.built h f.sets.place c.past_else.ensures g.sets.place in
    let few = r.few in
    search rules

pub loop-i-smaller-in-Branch : goal.loop-i-smaller-in-Branch
loop-i-smaller-in-Branch c =
    let (text, r) = c.requires.0 in
    let h = sym c.shape_at.ensures ∙ c.in-Branch.is in
    let f = c.moves_of-first.ensures text (ready r (search rules)) in
    let g = c.moves_of-second.ensures text (second_part r c.loop-i-test.true h f.sets.place c.past_else.ensures) in
    let u = pick_at _ _ _ c.loop-i-test.true r.built h f.sets.place c.past_else.ensures g.sets.place in
    search rules

pub loop-i-preserved-in-Branch : goal.loop-i-preserved-in-Branch
loop-i-preserved-in-Branch c = λ text r.
    let h = sym c.shape_at.ensures ∙ c.in-Branch.is in
    let f = c.moves_of-first.ensures text (ready r (search rules)) in
    let g = c.moves_of-second.ensures text (second_part r c.loop-i-test.true h f.sets.place c.past_else.ensures) in
    let u = pick_at _ _ _ c.loop-i-test.true r.built h f.sets.place c.past_else.ensures g.sets.place in
    rw (g.sets.value, f.sets.value) (pick_row _ _ _ _ _ (c.loop-i.invariant text r) c.loop-i-test.true r.built u (sole_pick _ _ _ _ _ _))

pub moves_of-body-requires : goal.moves_of-body-requires
moves_of-body-requires c = let (text, r) = c.requires.0 in ((text, ready r (search rules)), c.requires.1)

pub insert_assigned-requires-in-Loop : goal.insert_assigned-requires-in-Loop
insert_assigned-requires-in-Loop c = let (text, r) = c.requires.0 in (row_in c.args.rows.now _ (search rules), r.fine _ c.loop-i-test.true)

pub overflow_add-i-in-Loop-2 : goal.overflow_add-i-in-Loop-2
overflow_add-i-in-Loop-2 c =
    let (text, r) = c.requires.0 in
    let h = sym c.shape_at.ensures ∙ c.in-Loop.is in
    let f = c.moves_of-body.ensures text (ready r (search rules)) in
    let k = loop_at _ _ _ c.loop-i-test.true r.built h f.sets.place in
    let few = r.few in
    search rules

pub loop-i-smaller : goal.loop-i-smaller
loop-i-smaller c =
    let (text, r) = c.requires.0 in
    let h = sym c.shape_at.ensures ∙ c.in-Loop.is in
    let f = c.moves_of-body.ensures text (ready r (search rules)) in
    let k = loop_at _ _ _ c.loop-i-test.true r.built h f.sets.place in
    search rules

pub loop-i-preserved : goal.loop-i-preserved
loop-i-preserved c = λ text r.
    let h = sym c.shape_at.ensures ∙ c.in-Loop.is in
    let f = c.moves_of-body.ensures text (ready r (search rules)) in
    let k = loop_at _ _ _ c.loop-i-test.true r.built h f.sets.place in
    rw (c.insert_assigned-in-Loop.ensures text, f.sets.value) (loop_row _ _ _ _ _ (c.loop-i.invariant text r) c.loop-i-test.true r.built k (sole_loop _ _ _ _ _ h _ _))

pub returns-in-Close : goal.returns-in-Close
returns-in-Close c = λ text r. record { value = (at_close _ _ _ _ _ (sole_done _ _) (c.loop-i.invariant text r) c.loop-i-test.true r.built (sym c.shape_at.ensures ∙ c.in-Close.is)).value ∙ from_nothing _ c.new-set.ensures _; small = tt }

pub returns : goal.returns
returns c = λ text r. record { value = (at_last _ _ _ _ _ (sole_done _ _) (c.loop-i.invariant text r) r.built c.loop-i-test.false).value ∙ from_nothing _ c.new-set.ensures _; small = tt }

pub shape_at-requires : goal.shape_at-requires
shape_at-requires c = let (text, r) = c.requires.0 in row_in c.args.rows.now _ (search rules)

pub sets_it-requires : goal.sets_it-requires
sets_it-requires c = let (text, r) = c.requires.0 in row_in c.args.rows.now _ (search rules)
