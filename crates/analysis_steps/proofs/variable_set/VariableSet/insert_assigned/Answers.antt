-- `VariableSet::insert_assigned` meets its contract.
use mathlib.Core.Bool.{◌&&◌}
use mathlib.Core.Path.{refl, ap₂, ◌∙◌}
use mathlib.Core.List.{[]}
use borrow.Author.Tests.{eq-eqb}
use Rattle.table.specs.Code.{numbers_at, variable_in}
use Rattle.analysis_steps.proofs.Sets.{row_one, row_none}
use Rattle.analysis_steps.proofs.Tags.{sets_small}
use Rattle.analysis_steps.proofs.variable_set.VariableSet.insert_assigned.Goals as goal

pub insert-requires : goal.insert-requires
insert-requires c =
    let a = c.args in
    let own = c.assigns.ensures [] _ ∙ ap₂ ◌&&◌ c.if-assigns.true (eq-eqb (variable_in (numbers_at a.rows.now a.i)) _ refl) in
    rw c.variable_at.ensures (sets_small [] a.rows.now a.i c.requires.0 c.requires.1 own)

pub returns-then-assigns : goal.returns-then-assigns
returns-then-assigns c = λ text. c.insert.ensures ∙ row_one _ _ _ (λ w. rw (c.assigns.ensures text w, c.if-assigns.true, c.variable_at.ensures))

pub returns-else-assigns : goal.returns-else-assigns
returns-else-assigns c = λ text. row_none _ _ (λ w. rw (c.assigns.ensures text w, c.if-assigns.false))
