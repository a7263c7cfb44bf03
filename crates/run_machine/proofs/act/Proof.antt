-- `run_machine::act` meets its contract. Assumes nothing.
use mathlib.Core.Path.{◌≡◌, refl, sym, ◌∙◌}
use mathlib.Core.Logic.{◌⊎◌}
use native.Mathlib.Omega.{arith}
use borrow.Author.Rules.{rules}
use Rattle.rules.specs.declared.Kind.TheVariants.{Pick, Else}
use Rattle.rules.specs.Blocks.{view_of, kind_of}
use Rattle.table.specs.declared.Tag.{Tag}
use Rattle.table.specs.Code.{tag_in, kind_by}
use Rattle.run_machine.proofs.Rows.{kind_op, step_row}
use Rattle.run_machine.proofs.Ops.{none_below, waits, row, partner_small, set_row_lem, move_row_lem, off_row_lem, for_row_lem, do_row_lem, while_row_lem}
use Rattle.run_machine.proofs.Ops.{set_done, move_done, off_done, cue_done, pick_done, else_done, end_done, test_done, step_done, for_done, do_done, while_done}
use Rattle.run_machine.proofs.act.Statement.{statement}
use Rattle.run_machine.proofs.act.Tie as tie

-- the ops that are left
other : (c : tie.In_default) → (tag_in c.op_at.result ≡ Tag.While) ⊎ (tag_in c.op_at.result ≡ Tag.Hold)
other c = waits c.op_at.result (none_below 17 c.op_at.result c.in_default.in_default-own.rest.0) c.in_default.in_default-own.rest.1

pub act_spec : {M : Type 1} → statement M
unfolding view_of kind_of kind_by
act_spec =
    tie.close
    (tie.spec
    (λ c κs. (row c.requires.1 _ refl).size)
    (λ c. let r = row c.requires.1 _ refl in omega (arith, r.small))
    (λ c κs. search rules) (λ c κs. search rules)
    (λ c κs. step_row c.requires.1 (sym c.op_at.ensures ∙ c.in-2.is))
    (λ c κs. (row c.requires.1 _ refl).size)
    (λ c. let h = partner_small c.requires.1 Else (kind_op _ 3 (sym c.op_at.ensures ∙ c.in-3.is) Tag.Else refl) tt in omega (arith, c.partner_at.ensures))
    (λ c κs. search rules)
    (λ c κs. set_row_lem c.requires.1 4 (sym c.op_at.ensures ∙ c.in-4.is) refl)
    (λ c κs. set_row_lem c.requires.1 5 (sym c.op_at.ensures ∙ c.in-5.is) refl)
    (λ c κs. set_row_lem c.requires.1 6 (sym c.op_at.ensures ∙ c.in-6.is) refl)
    (λ c κs. (row c.requires.1 _ refl).size)
    (λ c. let h = partner_small c.requires.1 Pick (kind_op _ 7 (sym c.op_at.ensures ∙ c.in-7.is) Tag.Pick refl) tt in omega (arith, c.partner_at-in-7.ensures))
    (λ c κs. (row c.requires.1 _ refl).small)
    (λ c κs. for_row_lem c.requires.1 8 (sym c.op_at.ensures ∙ c.in-8.is) refl)
    (λ c κs. for_row_lem c.requires.1 9 (sym c.op_at.ensures ∙ c.in-9.is) refl)
    (λ c κs. for_row_lem c.requires.1 10 (sym c.op_at.ensures ∙ c.in-10.is) refl)
    (λ c κs. (row c.requires.1 _ refl).small)
    (λ c κs. move_row_lem c.requires.1 12 (sym c.op_at.ensures ∙ c.in-12.is) refl)
    (λ c κs. move_row_lem c.requires.1 13 (sym c.op_at.ensures ∙ c.in-13.is) refl)
    (λ c κs. move_row_lem c.requires.1 14 (sym c.op_at.ensures ∙ c.in-14.is) refl)
    (λ c κs. move_row_lem c.requires.1 15 (sym c.op_at.ensures ∙ c.in-15.is) refl)
    (λ c κs. off_row_lem c.requires.1 (sym c.op_at.ensures ∙ c.in-16.is))
    (λ c κs. do_row_lem c.requires.1 (sym c.op_at.ensures ∙ c.in-18.is))
    (λ c κs. while_row_lem c.requires.1 _ (sym c.op_at.ensures) (other c.before))
    (λ c. let a = c.args in λ count x. end_done x a.prices a.picks.now (sym c.op_at.ensures ∙ c.in-0.is) c.on.ensures)
    (λ c. let a = c.args in λ count x. test_done x a.prices a.picks.now (sym c.op_at.ensures ∙ c.in-1.is) c.on-in-1.ensures)
    (λ c. search rules)
    (λ c. let a = c.args in λ count x. step_done x a.prices a.picks.now (sym c.op_at.ensures ∙ c.in-2.is) c.step_row.ensures)
    (λ c. let a = c.args in λ count x. else_done x a.prices a.picks.now (sym c.op_at.ensures ∙ c.in-3.is) c.partner_at.ensures c.on-in-3.ensures)
    (λ c. search rules)
    (λ c. let a = c.args in λ count x. set_done x a.prices a.picks.now 4 (sym c.op_at.ensures ∙ c.in-4.is) refl c.set_row.ensures)
    (λ c. search rules)
    (λ c. let a = c.args in λ count x. set_done x a.prices a.picks.now 5 (sym c.op_at.ensures ∙ c.in-5.is) refl c.set_row-in-5.ensures)
    (λ c. search rules)
    (λ c. let a = c.args in λ count x. set_done x a.prices a.picks.now 6 (sym c.op_at.ensures ∙ c.in-6.is) refl c.set_row-in-6.ensures)
    (λ c. let a = c.args in λ count x. pick_done x a.prices a.picks.now (sym c.op_at.ensures ∙ c.in-7.is) c.partner_at-in-7.ensures (c.pick_row.ensures _ _))
    (λ c. search rules)
    (λ c. let a = c.args in λ count x. for_done x a.prices a.picks.now 8 (sym c.op_at.ensures ∙ c.in-8.is) refl c.for_row.ensures)
    (λ c. search rules)
    (λ c. let a = c.args in λ count x. for_done x a.prices a.picks.now 9 (sym c.op_at.ensures ∙ c.in-9.is) refl c.for_row-in-9.ensures)
    (λ c. search rules)
    (λ c. let a = c.args in λ count x. for_done x a.prices a.picks.now 10 (sym c.op_at.ensures ∙ c.in-10.is) refl c.for_row-in-10.ensures)
    (λ c. let a = c.args in λ count x. cue_done x a.prices a.picks.now (sym c.op_at.ensures ∙ c.in-11.is) (λ picks d. c.cue_row.ensures _ picks d _))
    (λ c. search rules)
    (λ c. let a = c.args in λ count x. move_done x a.prices a.picks.now 12 (sym c.op_at.ensures ∙ c.in-12.is) refl c.move_row.ensures)
    (λ c. search rules)
    (λ c. let a = c.args in λ count x. move_done x a.prices a.picks.now 13 (sym c.op_at.ensures ∙ c.in-13.is) refl c.move_row-in-13.ensures)
    (λ c. search rules)
    (λ c. let a = c.args in λ count x. move_done x a.prices a.picks.now 14 (sym c.op_at.ensures ∙ c.in-14.is) refl c.move_row-in-14.ensures)
    (λ c. search rules)
    (λ c. let a = c.args in λ count x. move_done x a.prices a.picks.now 15 (sym c.op_at.ensures ∙ c.in-15.is) refl c.move_row-in-15.ensures)
    (λ c. search rules)
    (λ c. let a = c.args in λ count x. off_done x a.prices a.picks.now (sym c.op_at.ensures ∙ c.in-16.is) c.off_row.ensures)
    (λ c. let a = c.args in λ count x. do_done x a.prices a.picks.now (sym c.op_at.ensures ∙ c.in-18.is) c.do_row.ensures)
    (λ c. let a = c.args in λ count x. while_done x a.prices a.picks.now _ (sym c.op_at.ensures) (other c.before.before) c.while_row.ensures))
