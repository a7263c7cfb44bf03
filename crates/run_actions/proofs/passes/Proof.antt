-- `run_actions::passes` meets its contract. Assumes nothing.
use mathlib.Core.Path.{◌∙◌}
use mir.Facts.{to_z-of_z}
use Rattle.ints.proofs.Parts.{eq_z_yes, eq_z_no}
use Rattle.table.specs.Code.{comparison_by}
use Rattle.run_actions.proofs.Order.{bits_of, less_only, by_order}
use Rattle.run_actions.proofs.passes.Statement.{statement}
use Rattle.run_actions.proofs.passes.Tie as tie

returns : tie.Need-returns-then-x-y
returns c =
    let s = c in
    let f = s.ranges in
    let l = simp (to_z-of_z f.x, to_z-of_z f.y) at c.if-x-y.true in
    (bits_of s.args.code s.requires).less ∙ by_order s.args.x s.args.y (comparison_by s.args.code) _ _ l (less_only s.args.x s.args.y l)

returns_2 : tie.Need-returns-then-x-y-2
returns_2 c =
    let s = c in
    let f = s.ranges in
    let l = simp (to_z-of_z f.x, to_z-of_z f.y) at c.if-x-y.false in
    (bits_of s.args.code s.requires).equal ∙ by_order s.args.x s.args.y (comparison_by s.args.code) _ _ l (eq_z_yes _ _ f.x f.y c.if-x-y-2.true)

returns_3 : tie.Need-returns
returns_3 c =
    let s = c in
    let f = s.ranges in
    let l = simp (to_z-of_z f.x, to_z-of_z f.y) at c.if-x-y.false in
    (bits_of s.args.code s.requires).greater ∙ by_order s.args.x s.args.y (comparison_by s.args.code) _ _ l (eq_z_no _ _ f.x f.y c.if-x-y-2.false)

pub passes_spec : {M : Type 1} → statement M
passes_spec = tie.close (tie.spec returns returns_2 returns_3)
