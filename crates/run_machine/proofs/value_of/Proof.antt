-- `run_machine::value_of` meets its contract. Assumes nothing.
use mathlib.Core.Path.{◌∙◌, ap, sym, subst}
use mir.Facts.{to_z-of_z}
use mir.Val.{SFits}
use mir.Syntax.{w64}
use lib.ListN.{length}
use Rattle.rules.specs.Blocks.{expr_of}
use Rattle.rules.specs.Scripts.{store_of}
use Rattle.rules.specs.Values.{value}
use Rattle.run_machine.specs.Rows.{Readable}
use borrow.Author.Rules.{rules, sfits_of}
use Rattle.run_machine.proofs.value_of.Statement.{statement}
use Rattle.run_machine.proofs.value_of.Tie as tie

value-of-requires : tie.Need-value_of-requires
value-of-requires c κs =
    let s = c in
    let q = subst (Readable s.args.text.now (length s.args.store.now)) (sym c.operand.ensures) s.requires in
    (q.written, q.below)

returns : tie.Need-returns
returns c =
    let s = c in
    let f : SFits w64 c.value_of.result = sfits_of c.value_of.type_inv in
    rw (to_z-of_z f) (c.value_of.ensures ∙ ap (λ x. value (expr_of s.args.text.now x) (store_of s.args.store.now)) c.operand.ensures)

pub value_of_spec : {M : Type 1} → statement M
value_of_spec =
    tie.close
    (tie.spec
    (λ c κs. search rules)
    value-of-requires
    returns)
