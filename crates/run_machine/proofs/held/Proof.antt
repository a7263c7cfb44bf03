-- `run_machine::held` meets its contract. Assumes nothing.
use mathlib.Core.Path.{◌≡◌, sym, ◌∙◌, ap, subst}
use mir.Facts.{to_z-of_z, sfits_widen}
use mir.Val.{SFits}
use mir.Syntax.{w32, w64}
use borrow.Author.Rules.{rules, sfits_of}
use Rattle.rules.specs.Run.{result}
use Rattle.rules.specs.Scripts.{store_of}
use Rattle.rules.specs.Values.{compares, number}
use Rattle.table.specs.Code.{constant_in, watched_in, comparison_by, comparison_in, against_in, numbers_at}
use Rattle.table.specs.Packing.{IsComparison}
use Rattle.run_machine.proofs.held.Statement.{statement}
use Rattle.run_machine.proofs.held.Tie as tie

-- whether the comparison is true
told : (c : tie.After-passes) → let a = c.args in let e = numbers_at a.rows.now a.i in
    c.passes.result ≡ compares (comparison_by (comparison_in e)) (store_of a.store.now (watched_in e)) (against_in e)
told c =
    let a = c.args in
    let w = c.stored-w in
    let k = c.constant-k in
    let f : SFits w32 w.result = sfits_of w.type_inv in
    let g : SFits w32 k.result = sfits_of k.type_inv in
    let x = w.ensures ∙ ap (store_of a.store.now) c.watched_at.ensures in
    let y = k.ensures ∙ ap constant_in c.limit_value_at.ensures in
    simp (to_z-of_z f, to_z-of_z g, to_z-of_z (sfits_widen {w' = w64} tt f), to_z-of_z (sfits_widen {w' = w64} tt g)) at c.passes.ensures ∙ (λ i. compares (comparison_by (c.comparison_at.ensures i)) (x i) (y i))

passes-requires : tie.Need-passes-requires
passes-requires c κs = let s = c in subst IsComparison (sym c.comparison_at.ensures) s.requires.code

returns : tie.Need-returns-then-passes
unfolding result
returns c = rw (sym (told c.before) ∙ c.if-passes.true)

stored-requires-2 : tie.Need-stored-requires
stored-requires-2 c κs = let s = c in rw c.variable_at.ensures s.requires.row.variable

returns_2 : tie.Need-returns
unfolding result
returns_2 c =
    let a = c.args in
    let x = c.stored in
    let f : SFits w32 x.result = sfits_of x.type_inv in
    rw (sym (told c.before.before.before) ∙ c.if-passes.false) (ap number (simp (to_z-of_z f, to_z-of_z (sfits_widen {w' = w64} tt f)) (x.ensures ∙ ap (store_of a.store.now) c.variable_at.ensures)))

pub held_spec : {M : Type 1} → statement M
held_spec =
    tie.close
    (tie.spec
    (λ c κs. search rules)
    (λ c κs. rw c.watched_at.ensures c.requires.watched)
    (λ c κs. search rules) (λ c κs. search rules) (λ c κs. search rules)
    (λ c. let x = c.stored-w in let f : SFits w32 x.result = sfits_of x.type_inv in rw (to_z-of_z f) (sfits_widen tt f))
    (λ c. let x = c.constant-k in let f : SFits w32 x.result = sfits_of x.type_inv in rw (to_z-of_z f) (sfits_widen tt f))
    passes-requires
    returns
    (λ c κs. search rules)
    stored-requires-2
    (λ c. let f : SFits w32 c.stored.result = sfits_of c.stored.type_inv in rw (to_z-of_z f) (sfits_widen tt f))
    returns_2)
