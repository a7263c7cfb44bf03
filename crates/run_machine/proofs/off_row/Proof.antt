-- `run_machine::off_row` meets its contract. Assumes nothing.
use mathlib.Core.Path.{refl}
use mathlib.Core.Bool.{false}
use mir.Facts.{to_z-of_z}
use mir.Val.{SFits}
use mir.Syntax.{w64}
use borrow.Author.Rules.{rules, sfits_of}
use Rattle.rules.specs.Blocks.{off}
use Rattle.table.specs.Code.{watched_in, comparison_by, comparison_in, against_in}
use Rattle.run_machine.specs.Rows.{row_of}
use Rattle.run_machine.proofs.Laws.{put_plain}
use Rattle.run_machine.proofs.off_row.Statement.{statement}
use Rattle.run_machine.proofs.off_row.Tie as tie

put-requires : tie.Need-put-requires
put-requires c κs = let s = c in rw c.variable_at.ensures s.requires.row.variable

returns : tie.Need-returns
returns c =
    let a = c.args in
    let e = row_of a.rows.now a.m in
    let z = c.held-z in
    let f : SFits w64 z.result = sfits_of z.type_inv in
    λ picks d. put_plain a.prices a.store.now false refl c.variable_at.ensures refl (off (watched_in e) (comparison_by (comparison_in e)) (against_in e)) z.result _ (λ i w s. refl) z.ensures (simp (to_z-of_z f) at (c.put.ensures picks d))

pub off_row_spec : {M : Type 1} → statement M
off_row_spec =
    tie.close
    (tie.spec
    (λ c κs. search rules) (λ c κs. search rules) (λ c. search rules)
    put-requires
    (λ c. search rules)
    returns)
