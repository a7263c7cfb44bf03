-- `run_machine::test_row` meets its contract. Assumes nothing.
use mathlib.Core.Path.{◌≡◌, refl, sym, ◌∙◌, ap, subst}
use mathlib.Core.Bool.{true, false}
use mathlib.Core.Logic.{inl, inr}
use Prim.Native.Nat.{◌+◌, ◌<◌}
use lib.IntN.{pos}
use mir.Facts.{to_z-of_z, sfits_widen}
use mir.Val.{SFits}
use mir.Syntax.{w32, w64}
use native.Mathlib.Omega.{arith}
use borrow.Author.Rules.{rules, sfits_of}
use Rattle.ints.specs.Ints.{eq_z}
use Rattle.ints.proofs.Parts.{ints, eq_z_yes, eq_z_no}
use Rattle.rules.specs.declared.Ending.TheVariants.{Spent}
use Rattle.rules.specs.Calls.{loop_rows}
use Rattle.rules.specs.Run.{choose}
use Rattle.rules.specs.Scripts.{store_of}
use Rattle.rules.specs.Values.{compares}
use Rattle.rules.proofs.Laws.{no_true}
use Rattle.rules_machine.specs.RowMachine.{turn}
use Rattle.table.specs.Code.{number, comparison_by, variable_in, comparison_in}
use Rattle.table.specs.Packing.{IsComparison}
use Rattle.table.proofs.Pairing.{heads_rise}
use Rattle.run_actions.specs.declared.Machine.{Machine}
use Rattle.run_actions.specs.States.{tally_of, RoomAt, over_at, is_going}
use Rattle.run_machine.specs.Steps.{script_in}
use Rattle.run_machine.specs.Rows.{row_of}
use Rattle.run_machine.proofs.Limits.{test_left}
use Rattle.run_machine.proofs.Rows.{room_at, at_a_test}
use Rattle.run_machine.proofs.Laws.{acts_as, test_spent, test_passed, test_failed, test_beyond, tried_past, tried_number}
use Rattle.run_machine.proofs.test_row.Statement.{statement}
use Rattle.run_machine.proofs.test_row.Tie as tie

past : SFits w64 (pos 4_000_000_000)
past = omega ints

-- the limit is a number
is_number : (c : tie.Else-limit-eq-PAST) → eq_z c.limit_of-limit.result (pos 4_000_000_000) ≡ false
is_number c = let f : SFits w64 c.limit_of-limit.result = sfits_of c.limit_of-limit.type_inv in eq_z_no c.limit_of-limit.result (pos 4_000_000_000) f past c.if-limit-eq-PAST.false

-- whether the comparison is true
told : (c : tie.After-passes) → let a = c.args in let n = row_of a.rows.now a.m in
    c.passes.result ≡ compares (comparison_by (comparison_in n)) (store_of a.store.now (variable_in n)) c.limit_of-limit.result
told c =
    let a = c.args in
    let x = c.stored-x in
    let z = c.limit_of-limit in
    let f : SFits w32 x.result = sfits_of x.type_inv in
    let g : SFits w64 z.result = sfits_of z.type_inv in
    let v = x.ensures ∙ ap (store_of a.store.now) c.variable_at.ensures in
    simp (to_z-of_z f, to_z-of_z (sfits_widen {w' = w64} tt f), to_z-of_z g) at c.passes.ensures ∙ (λ i. compares (comparison_by (c.comparison_at.ensures i)) (v i) z.result)

-- the loop's number
few : (c : tie.After-loop_at-else-passes) → c.loop_at-else-passes.result < 16
few c = let q = c.requires.1 in omega (arith, c.loop_at-else-passes.ensures, q.script.table.few, (at_a_test q).loop.few)

limit-of-requires : tie.Need-limit_of-limit-requires
limit-of-requires c κs =
    let (_, q, h) = c.requires in
    let k = at_a_test q in
    record { size = k.size; limit = k.limit; loop = omega (arith, q.script.table.few, k.loop.few); long = h.long; kept = h.kept }

returns : tie.Need-returns-then-left-price
returns c =
    let s = c in
    let a = s.args in (
      λ count picks q. let k = at_a_test q in record {
        acts = rw (c.ended.ensures ∙ ap (over_at a.m a.m.left Spent) c.partner_at.ensures) (acts_as refl (sym (k.step a.prices picks _)) (test_spent a.prices _ _ _ _ _ _ _ c.if-left-price.true));
        long = q.room.long;
      },
      record { long = s.requires.2.long; others = λ j n. refl; own = λ g. no_true (sym (ap (λ (m : Machine). is_going m.status) c.ended.ensures) ∙ g) },
    )

returns_2 : tie.Need-returns-then-limit-eq-PAST
returns_2 c =
    let a = c.args in
    let z = c.limit_of-limit in
    let f : SFits w64 z.result = sfits_of z.type_inv in
    let y : eq_z z.result (pos 4_000_000_000) ≡ true = eq_z_yes _ _ f past c.if-limit-eq-PAST.true in (
      λ count picks q. let k = at_a_test q in record {
        acts = rw (c.ended-then-limit-eq-PAST.ensures, c.partner_at-then-limit-eq-PAST.ensures) (acts_as refl (sym (k.step a.prices picks _)) (test_beyond a.prices _ _ _ _ _ _ _ c.if-left-price.false (tried_past _ _ _ _ y z.ensures.read)));
        long = q.room.long;
      },
      record { long = z.ensures.still.long; others = z.ensures.still.others; own = λ g. no_true (sym (ap (λ (m : Machine). is_going m.status) c.ended-then-limit-eq-PAST.ensures) ∙ g) },
    )

count-turn-requires : tie.Need-count_turn-requires
count-turn-requires c κs =
    let s = c in
    let q = s.requires.1 in
    subst (λ k. RoomAt k s.args.counts.now) (sym c.loop_at.ensures) (room_at q.script q.room (at_a_test q).loop.few)

returns_3 : tie.Need-returns-then-passes
unfolding choose
returns_3 c =
    let a = c.args in
    let y = sym c.if-passes.true ∙ told c.before.before.before.before.before.before in
    let b = rw c.loop_at.ensures at c.count_turn.ensures in
    let z = c.limit_of-limit.ensures in (
      λ count picks q.
          let k = at_a_test q in
          let script = script_in a.text.now a.rows.now count in
          let t = b.same (loop_rows 0 script) (heads_rise script 0) k.loop.few ∙ ap (λ h. turn h (tally_of (loop_rows 0 script) a.counts.now)) k.loop.place in
          record {
            acts = rw (c.on.ensures, c.partner_at-then-passes.ensures)
                (acts_as refl (sym (k.step a.prices picks _)) (test_passed a.prices _ _ _ _ _ _ _ _ c.if-left-price.false (tried_number _ _ _ _ true (is_number c.before.before.before.before.before.before.before.before.before.before) z.read y) t));
            long = b.long;
          },
      record {
        long = z.still.long;
        others = z.still.others;
        own = λ g. inr (ap (λ (m : Machine). m.row) c.on.ensures ∙ ap (λ n. n + 1) c.partner_at-then-passes.ensures, z.still.kept);
      },
    )

returns-4 : tie.Need-returns-else-passes
unfolding choose
returns-4 c =
    let a = c.args in
    let y = sym c.if-passes.false ∙ told c.before.before.before in
    let z = c.limit_of-limit.ensures in
    let k : number (row_of a.rows.now a.m) 1 < 16 = omega (arith, few c.before, c.loop_at-else-passes.ensures) in (
      λ count picks q. let k = at_a_test q in record {
        acts = rw c.on-else-passes.ensures (acts_as refl (sym (k.step a.prices picks _)) (test_failed a.prices _ _ _ _ _ _ _ c.if-left-price.false (tried_number _ _ _ _ false (is_number c.before.before.before.before.before.before.before) z.read y)));
        long = q.room.long;
      },
      test_left c.loop_at-else-passes.ensures k z.still,
    )

pub test_row_spec : {M : Type 1} → statement M
test_row_spec =
    tie.close
    (tie.spec
    (λ c κs. (at_a_test c.requires.1).size) (λ c κs. search rules)
    returns
    limit-of-requires
    (λ c κs. (at_a_test c.requires.1).size)
    (λ c κs. search rules)
    returns_2
    (λ c κs. (at_a_test c.requires.1).size)
    (λ c κs. rw c.variable_at.ensures (at_a_test c.requires.1).variable)
    (λ c κs. (at_a_test c.requires.1).size)
    (λ c. let x = c.stored-x in let f : SFits w32 x.result = sfits_of x.type_inv in rw (to_z-of_z f) (sfits_widen tt f))
    (λ c κs. subst IsComparison (sym c.comparison_at.ensures) (at_a_test c.requires.1).code)
    (λ c κs. (at_a_test c.requires.1).size)
    count-turn-requires
    (λ c κs. (at_a_test c.requires.1).size)
    (λ c. let k = at_a_test c.requires.1 in omega (arith, c.partner_at-then-passes.ensures, k.partner))
    (λ c κs. search rules)
    (λ c κs. (at_a_test c.requires.1).size)
    (λ c. let k = few c in search rules)
    (λ c. let k = few c in search rules)
    (λ c. let k = at_a_test c.requires.1 in omega (arith, k.small))
    (λ c κs. search rules)
    returns_3
    returns-4)
