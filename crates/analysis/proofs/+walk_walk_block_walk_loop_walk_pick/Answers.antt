-- `analysis::walk` and the functions for a block, which call it, meet their contracts.
use borrow.Author.Rules.{rules}
use native.Mathlib.Omega.{arith}
use Prim.Native.Nat.{◌+◌}
use mathlib.Core.Path.{refl, sym, ap, subst, ◌∙◌}
use mathlib.Core.Bool.{not, ◌&&◌}
use mathlib.Core.List.{[]}
use Rattle.rules.specs.Steps.{starts}
use Rattle.rules.specs.Questions.{loops_verdict, and_then}
use Rattle.rules.proofs.PassedOn.{passed_on}
use Rattle.table.specs.Code.{kind_at, rows_of}
use Rattle.table.proofs.Laws.{row_in}
use Rattle.analysis_steps.specs.Tree.{block_at, form_of, test_of}
use Rattle.analysis_steps.specs.Sets.{set_of}
use Rattle.analysis_steps.proofs.Walking.{ready, begin, pick_at, loop_at, at_close, at_last}
use Rattle.analysis_intervals.specs.Env.{env_of, range_of}
use Rattle.analysis_ranges.specs.Env.{widened_env}
use Rattle.analysis_ranges.proofs.Loops.{outside_after}
use Rattle.analysis.specs.Tallies.{with_lent}
use Rattle.analysis.specs.Fold.{IsBlock, folded}
use Rattle.analysis.proofs.Folding.{fold_none}
use Rattle.analysis.proofs.Going.{block_shape, loop_shape_lem, stopped_from, closing, restart_walkable, walked_from, room, go_plain, go_block, block_stops, pick_room, pick_first, pick_second, part_by, past_pick_lem, loop_room, loop_refused, body_refused, body_walkable, body_by, past_loop_lem}
use Rattle.analysis.proofs.+walk_walk_block_walk_loop_walk_pick.Goals as goal

-- ---- a pick: its first part is closed at m, its second one starts at q and ends at e
pub walk_pick-branch-part-requires : goal.walk_pick-branch-part-requires
walk_pick-branch-part-requires t c = c.requires.walk.fine

pub walk_pick-overflow_add-t : goal.walk_pick-overflow_add-t
walk_pick-overflow_add-t t c = let f = c.requires.walk.ready.few in let l = c.requires.inside in search rules

pub walk_pick-walk-requires : goal.walk_pick-walk-requires
walk_pick-walk-requires t c =
    let s = c.requires in
    let a = c.args in
    let u = pick_at _ _ _ s.inside s.walk.ready.built s.is refl refl refl in
    let h = pick_room a.script.prices a.round (env_of a.r.now) (with_lent a.t a.lines.now a.own.now) u s.walk.room in
    (omega (arith, s.inside, (c.restarted-begun.ensures [] []).next), (restart_walkable (ready s.walk.ready (omega (arith, s.inside))) s.walk.prices c.branch-part.ensures.1 (c.restarted-begun.ensures _ _) s.walk.long (omega arith) (omega arith)))

pub walk_pick-returns-in_err-a : goal.walk_pick-returns-in_err-a
unfolding folded and_then
walk_pick-returns-in_err-a t c =
    let s = c.requires in
    let a = c.args in
    let u = pick_at _ _ _ s.inside s.walk.ready.built s.is refl refl refl in
    rw (passed_on c.from_residual.result c.in_err-a.field-0.0 c.from_residual.ensures)
    (pick_first a.script.prices a.round (env_of a.r.now) (with_lent a.t a.lines.now a.own.now) u _ _ (stopped_from a.text.now (rows_of a.rows.now) a.script.count (env_of a.r.now) (c.restarted-begun.ensures [] []).next c.in_err-a.ensures))

pub walk_pick-past_else-requires : goal.walk_pick-past_else-requires
walk_pick-past_else-requires t c =
    let s = c.requires in
    let p = walked_from (c.restarted-begun.ensures [] []).next c.in_ok-a.ensures in
    let k = pick_at _ _ _ s.inside s.walk.ready.built s.is p.place refl refl in
    let f = s.walk.ready.reach in
    row_in c.args.rows.now _ (omega arith)

pub walk_pick-walk-requires-2 : goal.walk_pick-walk-requires-2
walk_pick-walk-requires-2 t c =
    let s = c.requires in
    let a = c.args in
    let π = a.script.prices in
    let ρ = env_of a.r.now in
    let x = with_lent a.t a.lines.now a.own.now in
    let p = walked_from (c.restarted-begun.ensures [] []).next c.in_ok-a.ensures in
    let u = pick_at _ _ _ s.inside s.walk.ready.built s.is p.place c.past_else.ensures refl in
    let h = pick_room π a.round ρ x u s.walk.room in
    let n = (part_by π a.round ρ x u c.branch-part.ensures.0 (c.restarted-begun.ensures _ _) p).count in
    (omega (arith, s.inside, u.first, u.second, u.last, (c.restarted-again.ensures [] []).next), (restart_walkable (ready s.walk.ready u.some) s.walk.prices c.branch-part.ensures.1 (c.restarted-again.ensures _ _) p.long (omega arith) (omega arith)))

pub walk_pick-returns-in_err-b : goal.walk_pick-returns-in_err-b
unfolding folded and_then
walk_pick-returns-in_err-b t c =
    let s = c.requires in
    let a = c.args in
    let π = a.script.prices in
    let ρ = env_of a.r.now in
    let x = with_lent a.t a.lines.now a.own.now in
    let p = walked_from (c.restarted-begun.ensures [] []).next c.in_ok-a.ensures in
    let u = pick_at _ _ _ s.inside s.walk.ready.built s.is p.place c.past_else.ensures refl in
    let n = part_by π a.round ρ x u c.branch-part.ensures.0 (c.restarted-begun.ensures _ _) p in
    rw (passed_on c.from_residual-in_err-b.result c.in_err-b.field-0.0 c.from_residual-in_err-b.ensures)
    (pick_second π a.round ρ x u _ _ n.verdict (stopped_from a.text.now (rows_of a.rows.now) a.script.count ρ (c.restarted-again.ensures [] []).next c.in_err-b.ensures))

pub walk_pick-leave_pick-requires : goal.walk_pick-leave_pick-requires
walk_pick-leave_pick-requires t c =
    let s = c.requires in
    let w = s.walk in
    let p = walked_from (c.restarted-begun.ensures [] []).next c.in_ok-a.ensures in
    let q = walked_from (c.restarted-again.ensures [] []).next c.in_ok-b.ensures in
    let u = pick_at _ _ _ s.inside w.ready.built s.is p.place c.past_else.ensures q.place in
    let f = w.ready.few in
    (w.prices.pick.small, omega arith, w.small, p.small, q.small)

pub walk_pick-returns : goal.walk_pick-returns
walk_pick-returns t c =
    let s = c.requires in
    let a = c.args in
    let π = a.script.prices in
    let ρ = env_of a.r.now in
    let x = with_lent a.t a.lines.now a.own.now in
    let p = walked_from (c.restarted-begun.ensures [] []).next c.in_ok-a.ensures in
    let q = walked_from (c.restarted-again.ensures [] []).next c.in_ok-b.ensures in
    let u = pick_at _ _ _ s.inside s.walk.ready.built s.is p.place c.past_else.ensures q.place in
    past_pick_lem π a.round ρ x u
    (part_by π a.round ρ x u c.branch-part.ensures.0 (c.restarted-begun.ensures _ _) p)
    (part_by π a.round ρ x u c.branch-part.ensures.0 (c.restarted-again.ensures _ _) q)
    (c.leave_pick.ensures _ _ _)
    c.joined.ensures

-- ---- a loop that ends at row e
pub walk_loop-enter_loop-requires : goal.walk_loop-enter_loop-requires
walk_loop-enter_loop-requires t c =
    let s = c.requires in
    let a = c.args in
    let w = s.walk in
    let u = loop_at _ _ _ s.inside w.ready.built s.is refl in
    (record { ready = w.ready; inside = s.inside; loops = s.is }, w.fine, w.prices, omega (arith, loop_room a.script.prices a.round (env_of a.r.now) (with_lent a.t a.lines.now a.own.now) u w.room), w.long)

pub walk_loop-returns-in_err-entered : goal.walk_loop-returns-in_err-entered
walk_loop-returns-in_err-entered t c =
    let s = c.requires in
    let a = c.args in
    let u = loop_at _ _ _ s.inside s.walk.ready.built s.is refl in
    rw (passed_on c.from_residual.result c.in_err-entered.field-0.0 c.from_residual.ensures)
    (loop_refused a.script.prices a.round (env_of a.r.now) (with_lent a.t a.lines.now a.own.now) u _ _ (c.in_err-entered.ensures a.own.now))

pub walk_loop-walk-requires : goal.walk_loop-walk-requires
walk_loop-walk-requires t c =
    let s = c.requires in
    let a = c.args in
    let n = (c.in_ok-entered.ensures a.own.now).whole in
    let w = s.walk in
    let u = loop_at _ _ _ s.inside w.ready.built s.is refl in
    (omega (arith, s.inside, n.lined.next), body_walkable a.script.prices a.round (env_of a.r.now) (with_lent a.t a.lines.now a.own.now) u c.in_ok-entered.entered n (ready w.ready (omega (arith, s.inside))) w.prices w.room)

pub walk_loop-returns-in_err-body : goal.walk_loop-returns-in_err-body
unfolding folded and_then
walk_loop-returns-in_err-body t c =
    let s = c.requires in
    let a = c.args in
    let e = c.in_ok-entered.ensures a.own.now in
    let rows = rows_of a.rows.now in
    let u = loop_at _ _ _ s.inside s.walk.ready.built s.is refl in
    rw (passed_on c.from_residual-in_err-body.result c.in_err-body.field-0.0 c.from_residual-in_err-body.ensures)
    (body_refused a.script.prices a.round (env_of a.r.now) (with_lent a.t a.lines.now a.own.now) u _ _ e.whole.verdict
    (sym (ap (λ ρ. loops_verdict ρ (block_at a.text.now rows a.script.count (a.t.next + 1))) e.begun) ∙ stopped_from a.text.now rows a.script.count _ e.whole.lined.next c.in_err-body.ensures))

pub walk_loop-leave_loop-left-requires : goal.walk_loop-leave_loop-left-requires
walk_loop-leave_loop-left-requires t c =
    let s = c.requires in
    let e = c.in_ok-entered.ensures c.args.own.now in
    let w = s.walk in
    let n = e.whole in
    let p = walked_from n.lined.next c.in_ok-body.ensures in
    let u = loop_at _ _ _ s.inside w.ready.built s.is p.place in
    let f = w.ready.few in
    (row_in c.args.rows.now _ (omega (arith, s.inside, w.ready.reach)), e.exit.small, omega arith, w.small, p.small, w.prices, w.fine, omega (arith, n.ran.tests, n.fine.few))

pub walk_loop-returns : goal.walk_loop-returns
walk_loop-returns t c =
    let s = c.requires in
    let a = c.args in
    let e = c.in_ok-entered.ensures a.own.now in
    let one = c.in_ok-entered.entered in
    let x = e.exit in
    let k = kind_at (rows_of a.rows.now) a.t.next in
    let text = a.text.now in
    let v = a.round.v in
    let left = c.leave_loop-left.ensures in
    let n = e.whole in
    let p = walked_from n.lined.next c.in_ok-body.ensures in
    let u = loop_at _ _ _ s.inside s.walk.ready.built s.is p.place in
    past_loop_lem a.script.prices a.round (env_of a.r.now) (with_lent a.t a.lines.now a.own.now) u one n
    (body_by a.script.prices a.round (env_of a.r.now) (with_lent a.t a.lines.now a.own.now) u one n e.begun p)
    (λ G h. left.closed text G h _ _ _)
    (ap (λ b. (a.t.kept && not (starts v (form_of text k) (test_of text k))) && not b) (x.sets v))
    (left.env ∙ ap (widened_env (set_of one.exit.set) (range_of one.exit.mine) one.exit.tested) e.begun ∙ outside_after (form_of text k) _ (test_of text k) _ x.sets x.mine x.tested)
    (λ h. c.to_note-unknown.ensures (search rules))
    c.put_own.ensures

-- ---- a pick or a loop
pub walk_block-shape_at-requires : goal.walk_block-shape_at-requires
walk_block-shape_at-requires t c = let a = c.requires.0 in let f = a.walk.ready.reach in let l = a.inside in row_in c.args.rows.now _ (omega arith)

pub walk_block-walk_pick-requires : goal.walk_block-walk_pick-requires
walk_block-walk_pick-requires t c =
    let a = c.requires.0 in
    (omega arith, record { walk = a.walk; inside = a.inside; is = sym c.shape_at.ensures ∙ c.in-Branch.is })

pub walk_block-walk_loop-requires : goal.walk_block-walk_loop-requires
walk_block-walk_loop-requires t c =
    let a = c.requires.0 in
    let e = c.shape_at.ensures in
    (omega arith, record { walk = a.walk; inside = a.inside; is = sym e ∙ loop_shape_lem _ c.in_default.not-Branch (subst IsBlock (sym e) c.requires.1) })

-- ---- the walk
pub walk-loop-t-init : goal.walk-loop-t-init
walk-loop-t-init t c = let w = c.requires in (refl, record { walk = begin _ _ _ _ _ w.ready.within; small = w.small; long = w.long })

pub walk-shape_at-requires : goal.walk-shape_at-requires
walk-shape_at-requires t c = let l = c.loop-t-test.true in let k = c.requires.ready in row_in c.args.rows.now _ (search rules)

pub walk-step_row-requires : goal.walk-step_row-requires
walk-step_row-requires t c =
    let k = c.requires.ready in
    let l = c.loop-t-test.true in
    (row_in c.args.rows.now _ (search rules), k.fine _ l, sym c.shape_at.ensures ∙ c.in-Plain.is, k.written _ l)

pub walk-past_row-t-requires : goal.walk-past_row-t-requires
walk-past_row-t-requires t c =
    let w = c.requires in
    ((row_in c.args.rows.now _ (search rules), sym c.shape_at.ensures ∙ c.in-Plain.is), w.prices, w.fine, c.loop-t.invariant.1.small)

pub walk-loop-t-smaller-in-Plain : goal.walk-loop-t-smaller-in-Plain
walk-loop-t-smaller-in-Plain t c = let e = (c.past_row-t.ensures [] [] []).next in let l = c.loop-t-test.true in search rules

pub walk-loop-t-preserved-in-Plain : goal.walk-loop-t-preserved-in-Plain
walk-loop-t-preserved-in-Plain t c =
    (c.loop-t.invariant.0, go_plain c.loop-t.invariant.1 c.loop-t-test.true c.requires.ready.built (sym c.shape_at.ensures ∙ c.in-Plain.is) c.step_row.ensures (c.past_row-t.ensures _ _ _))

pub walk-walk_block-requires : goal.walk-walk_block-requires
walk-walk_block-requires t c =
    let w = c.requires in
    let k = c.loop-t.invariant.1 in
    let l = c.loop-t-test.true in (
      omega (arith, k.walk.low),
      (
        record { walk = record { ready = ready w.ready k.walk.high; prices = w.prices; small = k.small; fine = w.fine; room = omega (arith, room k, w.room); long = k.long }; inside = l; is = refl },
        subst IsBlock c.shape_at.ensures (block_shape _ c.in_default.not-Plain c.in_default.not-Close),
      ),
    )

pub walk-returns-in_err-t-in_default : goal.walk-returns-in_err-t-in_default
walk-returns-in_err-t-in_default t c =
    rw (passed_on c.from_residual.result c.in_err-t-in_default.field-0.0 c.from_residual.ensures) (block_stops c.loop-t.invariant.1 _ _ c.in_err-t-in_default.ensures)

pub walk-loop-t-smaller : goal.walk-loop-t-smaller
walk-loop-t-smaller t c = let p = c.in_ok-t-in_default.ensures in let l = c.loop-t-test.true in search rules

pub walk-loop-t-preserved : goal.walk-loop-t-preserved
walk-loop-t-preserved t c = let p = c.in_ok-t-in_default.ensures in (search rules, go_block c.loop-t.invariant.1 p)

pub walk-returns-in-Close : goal.walk-returns-in-Close
walk-returns-in-Close t c =
    let k = c.loop-t.invariant.1 in
    closing (at_close _ _ _ _ _ (fold_none _ _ _ k.small) k.walk c.loop-t-test.true c.requires.ready.built (sym c.shape_at.ensures ∙ c.in-Close.is)) k.small k.long

pub walk-returns : goal.walk-returns
walk-returns t c =
    let k = c.loop-t.invariant.1 in
    closing (at_last _ _ _ _ _ (fold_none _ _ _ k.small) k.walk c.requires.ready.built c.loop-t-test.false) k.small k.long
