-- `run_machine::move_row` meets its contract. Assumes nothing.
use mathlib.Core.Path.{refl, sym, ◌∙◌, ap, subst}
use mathlib.Core.Bool.{false}
use mir.Facts.{to_z-of_z}
use mir.Val.{SFits}
use mir.Syntax.{w32, w64}
use borrow.Author.Rules.{rules, sfits_of}
use Rattle.rules.specs.Scripts.{store_of, ChangeLimits}
use Rattle.rules.specs.Values.{applied}
use Rattle.table.specs.Code.{change_in, number}
use Rattle.run_machine.specs.Rows.{row_of}
use Rattle.run_machine.proofs.Laws.{put_change}
use Rattle.run_machine.proofs.move_row.Statement.{statement}
use Rattle.run_machine.proofs.move_row.Tie as tie

stored-requires : tie.Need-stored-requires
stored-requires c κs = let s = c in rw c.variable_at-v.ensures s.requires.row.variable

changed-requires : tie.Need-changed-z-requires
changed-requires c κs =
    let s = c in
    subst ChangeLimits (sym (c.change-change.ensures ∙ ap (change_in s.args.kind) c.number_at.ensures)) s.requires.change

put-requires : tie.Need-put-requires
put-requires c κs = let s = c in rw c.variable_at-v.ensures s.requires.row.variable

returns : tie.Need-returns
returns c =
    let s = c in
    let a = s.args in
    let x = c.stored in
    let z = c.changed-z in
    let f : SFits w32 x.result = sfits_of x.type_inv in
    let g : SFits w64 z.result = sfits_of z.type_inv in
    let v = c.variable_at-v.ensures in
    let d = c.change-change.ensures ∙ ap (change_in a.kind) c.number_at.ensures in
    let y = simp (to_z-of_z f) at z.ensures ∙ (λ i. applied (d i) ((x.ensures ∙ ap (store_of a.store.now) v) i)) in
    λ picks t. put_change a.prices a.store.now false refl v refl z.result (change_in a.kind (number (row_of a.rows.now a.m) 3)) y (simp (to_z-of_z g) at (c.put.ensures picks t))

pub move_row_spec : {M : Type 1} → statement M
move_row_spec =
    tie.close
    (tie.spec
    (λ c κs. search rules) (λ c κs. search rules) (λ c κs. search rules)
    stored-requires
    changed-requires
    (λ c. search rules)
    put-requires
    (λ c. search rules)
    returns)
