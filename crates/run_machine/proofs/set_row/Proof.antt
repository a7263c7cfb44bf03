-- `run_machine::set_row` meets its contract. Assumes nothing.
use mathlib.Core.Path.{refl, sym, ◌∙◌, ap, subst}
use mathlib.Core.Bool.{false}
use mir.Facts.{to_z-of_z}
use mir.Val.{SFits}
use mir.Syntax.{w64}
use borrow.Author.Rules.{rules, sfits_of}
use lib.ListN.{length}
use Rattle.rules.specs.Blocks.{expr_of}
use Rattle.rules.specs.Scripts.{store_of}
use Rattle.rules.specs.Values.{value}
use Rattle.table.specs.Code.{operand_in, number}
use Rattle.run_machine.specs.Rows.{row_of, Readable}
use Rattle.run_machine.proofs.Laws.{put_value}
use Rattle.run_machine.proofs.set_row.Statement.{statement}
use Rattle.run_machine.proofs.set_row.Tie as tie

value-of-requires : tie.Need-value_of-z-requires
value-of-requires c κs =
    let s = c in
    subst (λ x. Readable s.args.text.now (length s.args.store.now) (operand_in s.args.kind x)) (sym c.start_at.ensures) s.requires.operand

put-requires : tie.Need-put-requires
put-requires c κs = let s = c in rw c.variable_at.ensures s.requires.row.variable

returns : tie.Need-returns
returns c =
    let s = c in
    let a = s.args in
    let z = c.value_of-z in
    let f : SFits w64 z.result = sfits_of z.type_inv in
    let x = operand_in a.kind (number (row_of a.rows.now a.m) 1) in
    let y = z.ensures ∙ ap (λ n. value (expr_of a.text.now (operand_in a.kind n)) (store_of a.store.now)) c.start_at.ensures in
    λ picks d. put_value a.prices a.store.now false refl c.variable_at.ensures refl z.result (expr_of a.text.now x) y (simp (to_z-of_z f) at (c.put.ensures picks d))

pub set_row_spec : {M : Type 1} → statement M
set_row_spec =
    tie.close
    (tie.spec
    (λ c κs. search rules)
    value-of-requires
    (λ c κs. search rules) (λ c. search rules)
    put-requires
    (λ c. search rules)
    returns)
