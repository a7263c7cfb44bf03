use mathlib.Core.Path.{refl, ap}
use Rattle.std.proofs.Common.{inl, inr}
use Rattle.rules.specs.Blocks.{view_of, kind_of}
use Rattle.rules.specs.Steps.{sets}
use Rattle.table.specs.Code.{kind_by}
use Rattle.table.specs.Shapes.{plain_of}
use Rattle.table.proofs.Laws.{kind_is, not_assigned}
use Rattle.table.proofs.assigns.Goals as goal

pub returns-in_default : goal.returns-in_default
returns-in_default c = λ text w. rw (kind_is _ _ c.requires c.tag_at.ensures refl) (not_assigned text _ _ c.in_default.not-Set c.in_default.not-Move c.in_default.not-For c.in_default.not-Off w)

pub returns-in-Set : goal.returns-in-Set
unfolding kind_by view_of kind_of sets
returns-in-Set c = λ text w.
    elim c.in-Set.is [
      | inl e ↦ ap (λ k. sets w (plain_of text k)) (kind_is c.args.rows.now c.args.i c.requires c.tag_at.ensures e)
      | inr (inl e) ↦ ap (λ k. sets w (plain_of text k)) (kind_is c.args.rows.now c.args.i c.requires c.tag_at.ensures e)
      | inr (inr (inl e)) ↦ ap (λ k. sets w (plain_of text k)) (kind_is c.args.rows.now c.args.i c.requires c.tag_at.ensures e)
      | inr (inr (inr e)) ↦ ap (λ k. sets w (plain_of text k)) (kind_is c.args.rows.now c.args.i c.requires c.tag_at.ensures e)
    ]
