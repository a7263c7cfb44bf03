-- `run_machine::kept_value` meets its contract. Assumes nothing.
use mathlib.Core.Bool.{true, false}
use mathlib.Core.Path.{◌≡◌, refl, sym, ◌∙◌, ap, subst}
use mathlib.Core.List.{List}
use mir.Facts.{to_z-of_z}
use mir.Val.{SFits}
use mir.Syntax.{w64}
use lib.IntN.{ℤ, pos}
use lib.Dec.{T}
use borrow.Author.Rules.{rules, sfits_of}
use Rattle.ints.specs.Ints.{eq_z}
use Rattle.ints.proofs.Parts.{ints, eq_z_no, is_true}
use Rattle.ints.proofs.Diffs.{eq_refl}
use Rattle.rules.specs.Blocks.{expr_of}
use Rattle.rules.proofs.Laws.{no_true}
use Rattle.table.specs.Code.{operand_in}
use Rattle.values.specs.Results.{result_in}
use Rattle.run_machine.specs.Rows.{ReadAs}
use Rattle.run_machine.specs.Limits.{not_kept, kept_of, Keeps, nothing, its_value, StillKept, ExpressionRead}
use Rattle.run_machine.proofs.Limits.{kept_same, kept_set, is_composed}
use Rattle.run_machine.proofs.kept_value.Statement.{statement}
use Rattle.run_machine.proofs.kept_value.Tie as tie

none_kept : SFits w64 not_kept
none_kept = omega ints

returns : tie.Need-returns-then-kept-ne-NOT_KEPT
returns c =
    let s = c in
    let z = c.kept_of-kept in
    let f : SFits w64 z.result = sfits_of z.type_inv in
    let n = eq_z_no z.result not_kept f none_kept c.if-kept-ne-NOT_KEPT.true in
    rw (to_z-of_z f) (record { read = by s.requires.kept n; still = kept_same s.requires.long s.requires.kept })
  where
    by : Keeps (expr_of c.args.text.now (operand_in 2 c.args.x)) c.args.store.now (kept_of c.args.limits.now c.args.k)
        → eq_z c.kept_of-kept.result not_kept ≡ false → ReadAs c.args.text.now c.args.store.now (operand_in 2 c.args.x) c.kept_of-kept.result
    by (nothing e) n = no_true (sym n ∙ is_true _ (subst (λ y. T (eq_z y not_kept)) (sym (c.kept_of-kept.ensures ∙ e)) (eq_refl not_kept)))
    by (its_value h e) n = ap result_in c.kept_of-kept.ensures ∙ e

returns_2 : tie.Need-returns
returns_2 c =
    let s = c in
    let f : SFits w64 c.value_of-z.result = sfits_of c.value_of-z.type_inv in
    rw (to_z-of_z f)
    (record { read = c.value_of-z.ensures; still = kept_set c.value_of-z.result s.requires.loop s.requires.long (its_value (is_composed _ _ _ s.requires.limit) c.value_of-z.ensures) })

pub kept_value_spec : {M : Type 1} → statement M
kept_value_spec =
    tie.close
    (tie.spec
    (λ c κs. c.requires.loop)
    returns
    (λ c κs. c.requires.limit)
    (λ c. search rules)
    (λ c. search rules)
    returns_2)
