-- The ranges after a row, by its tag.
use mathlib.Core.Path.{◌≡◌, refl, sym, subst, ◌∙◌}
use Rattle.rules.specs.Bounds.{Fine}
use Rattle.rules.specs.Written.{Written}
use Rattle.rules.specs.Ranges.{after_row}
use Rattle.table.specs.declared.Shape.{Shape}
use Rattle.table.specs.Code.{kind_by, numbers_at}
use Rattle.table.specs.Shapes.{shape_of, plain_of}
use Rattle.table.proofs.Laws.{kind_is}
use Rattle.analysis_intervals.specs.Env.{env_of}
use Rattle.analysis_ranges.proofs.Envs.{after_set, after_move, after_off, after_other}
use Rattle.analysis_ranges.proofs.transfer.step_row.Goals as goal

pub bounds-s-requires : goal.bounds-s-requires
unfolding kind_by
bounds-s-requires c = rw c.operand_at.ensures ((subst Fine (kind_is c.args.rows.now c.args.i c.requires.0 c.tag_at.ensures c.in-Set.is) c.requires.1).1, subst (Written c.args.text.now) (kind_is c.args.rows.now c.args.i c.requires.0 c.tag_at.ensures c.in-Set.is) c.requires.3)

pub put-requires : goal.put-requires
unfolding kind_by
put-requires c = rw c.variable_at.ensures (subst Fine (kind_is c.args.rows.now c.args.i c.requires.0 c.tag_at.ensures c.in-Set.is) c.requires.1).0

pub interval_at-requires : goal.interval_at-requires
unfolding kind_by
interval_at-requires c = rw c.variable_at-v.ensures (subst Fine (kind_is c.args.rows.now c.args.i c.requires.0 c.tag_at.ensures c.in-Move.is) c.requires.1).0

pub changed-s-requires : goal.changed-s-requires
unfolding kind_by
changed-s-requires c = rw c.change_at.ensures (subst Fine (kind_is c.args.rows.now c.args.i c.requires.0 c.tag_at.ensures c.in-Move.is) c.requires.1).1

pub put-requires-in-Move : goal.put-requires-in-Move
unfolding kind_by
put-requires-in-Move c = rw c.variable_at-v.ensures (subst Fine (kind_is c.args.rows.now c.args.i c.requires.0 c.tag_at.ensures c.in-Move.is) c.requires.1).0

pub interval_at-requires-in-Off : goal.interval_at-requires-in-Off
unfolding kind_by
interval_at-requires-in-Off c = rw c.variable_at-v-in-Off.ensures (subst Fine (kind_is c.args.rows.now c.args.i c.requires.0 c.tag_at.ensures c.in-Off.is) c.requires.1).0

pub put-requires-in-Off : goal.put-requires-in-Off
unfolding kind_by
put-requires-in-Off c = rw c.variable_at-v-in-Off.ensures (subst Fine (kind_is c.args.rows.now c.args.i c.requires.0 c.tag_at.ensures c.in-Off.is) c.requires.1).0

pub returns-in-Set : goal.returns-in-Set
returns-in-Set c = c.put.ensures ∙ rw (kind_is c.args.rows.now c.args.i c.requires.0 c.tag_at.ensures c.in-Set.is) (after_set _ _ _ c.variable_at.ensures c.operand_at.ensures c.bounds-s.ensures)

pub returns-in-Move : goal.returns-in-Move
returns-in-Move c = c.put-in-Move.ensures ∙ rw (kind_is c.args.rows.now c.args.i c.requires.0 c.tag_at.ensures c.in-Move.is) (after_move _ _ _ c.variable_at-v.ensures c.change_at.ensures c.interval_at.ensures c.changed-s.ensures)

pub returns-in-Off : goal.returns-in-Off
returns-in-Off c = c.put-in-Off.ensures ∙ rw (kind_is c.args.rows.now c.args.i c.requires.0 c.tag_at.ensures c.in-Off.is) (after_off _ _ _ c.variable_at-v-in-Off.ensures c.interval_at-in-Off.ensures c.with_zero-s.ensures)

pub returns-in_default : goal.returns-in_default
returns-in_default c =
    let a = c.args in
    let ρ = env_of a.r.now in
    let e = kind_is a.rows.now a.i c.requires.0 c.tag_at.ensures refl in
    subst (λ k. ρ ≡ after_row ρ (plain_of a.text.now k)) (sym e)
    (after_other a.text.now ρ (numbers_at a.rows.now a.i) c.tag_at.result c.in_default.not-Set c.in_default.not-Move c.in_default.not-Off (subst (λ k. shape_of k ≡ Shape.Plain) e c.requires.2))
