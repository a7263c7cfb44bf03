-- `analysis_steps::row_step` meets its contract.
use mathlib.Core.Logic.{inl, inr}
use mathlib.Core.Path.{sym, ◌∙◌}
use mathlib.Core.List.{[]}
use Rattle.analysis_steps.proofs.Stepping.{row_still}
use Rattle.analysis_steps.proofs.Tags.{step_set, step_off, step_change}
use Rattle.analysis_steps.proofs.row_step.Goals as goal

pub returns-then-not-sets_it : goal.returns-then-not-sets_it
returns-then-not-sets_it c = λ text. sym (row_still c.args.v _ (sym (c.sets_it.ensures text) ∙ c.if-not-sets_it.true))

pub change_step-requires : goal.change_step-requires
change_step-requires c =
    let a = c.args in
    rw c.change_at.ensures (step_change [] a.rows.now a.i c.requires.0 c.tag_at.ensures c.in_default.not-Set c.in_default.not-Off a.v c.requires.1 (sym (c.sets_it.ensures []) ∙ c.if-not-sets_it.false)).0

pub returns-in-Set : goal.returns-in-Set
returns-in-Set c = λ text.
    let a = c.args in
    elim c.in-Set.is [
      | inl e ↦ sym (step_set text a.rows.now a.i c.requires.0 c.tag_at.ensures e a.v (sym (c.sets_it.ensures text) ∙ c.if-not-sets_it.false))
      | inr e ↦ sym (step_off text a.rows.now a.i c.requires.0 c.tag_at.ensures e a.v (sym (c.sets_it.ensures text) ∙ c.if-not-sets_it.false))
    ]

pub returns-in_default : goal.returns-in_default
returns-in_default c = λ text.
    let a = c.args in
    rw (c.change_step.ensures, c.change_at.ensures)
    (sym (step_change text a.rows.now a.i c.requires.0 c.tag_at.ensures c.in_default.not-Set c.in_default.not-Off a.v c.requires.1 (sym (c.sets_it.ensures text) ∙ c.if-not-sets_it.false)).1)
