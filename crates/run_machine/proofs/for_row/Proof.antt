-- `run_machine::for_row` meets its contract. Assumes nothing.
use mathlib.Core.Path.{◌≡◌, refl, sym, ◌∙◌, ap, subst}
use mathlib.Core.Bool.{true}
use mir.Facts.{to_z-of_z}
use mir.Val.{SFits}
use mir.Syntax.{w64}
use borrow.Author.Rules.{rules, sfits_of}
use lib.ListN.{length, get_or}
use Rattle.rules.specs.Blocks.{expr_of}
use Rattle.rules.specs.Run.{exec}
use Rattle.rules.specs.Scripts.{store_of}
use Rattle.rules.specs.Values.{value}
use Rattle.rules_machine.specs.RowMachine.{begin}
use Rattle.table.specs.Code.{operand_in, number, partner_in, numbers_at}
use Rattle.run_actions.specs.States.{tally_of, RoomAt, state_of}
use Rattle.run_machine.specs.Rows.{row_of, loop_of, set_of, Readable}
use Rattle.run_machine.proofs.Laws.{acts_as, put_value, for_begins, for_stops}
use Rattle.run_machine.proofs.for_row.Statement.{statement}
use Rattle.run_machine.proofs.for_row.Tie as tie

value-of-requires : tie.Need-value_of-z-requires
value-of-requires c κs =
    let s = c in
    subst (λ x. Readable s.args.text.now (length s.args.store.now) (operand_in s.args.kind x)) (sym c.start_at.ensures) s.requires.start.operand

put-requires : tie.Need-put-n-requires
put-requires c κs = let s = c in rw c.variable_at.ensures s.requires.start.row.variable

loop-at-requires : tie.Need-loop_at-requires
loop-at-requires c κs = let s = c in rw c.partner_at-e.ensures s.requires.loop.end

-- the loop's number
known : (c : tie.After-loop_at) → let a = c.args in c.loop_at.result ≡ loop_of a.rows.now a.m
known c = let a = c.args in c.loop_at.ensures ∙ ap (λ e. number (numbers_at a.rows.now e) 1) c.partner_at-e.ensures

begin-requires : tie.Need-begin-requires
begin-requires c κs = let s = c in subst (λ k. RoomAt k s.args.counts.now) (sym (known c.before)) s.requires.loop.room

returns : tie.Need-returns-then-going
returns c =
    let a = c.args in
    let z = c.value_of-z in
    let f : SFits w64 z.result = sfits_of z.type_inv in
    let e = row_of a.rows.now a.m in
    let x = operand_in a.kind (number e 1) in
    let y = z.ensures ∙ ap (λ n. value (expr_of a.text.now (operand_in a.kind n)) (store_of a.store.now)) c.start_at.ensures in
    let b = rw (known c.before.before) at c.begin.ensures in
    record {
      long = b.long;
      acts = λ picks heads r l.
          let o = exec a.prices a.m.row (set_of a.text.now a.kind e) (state_of a.m a.store.now picks) in
          acts_as (sym (b.same heads r l)) refl
          (for_begins _ _ _ _ _ _ (partner_in e) o (sym c.going.ensures ∙ c.if-going.true) (put_value a.prices a.store.now true refl c.variable_at.ensures c.partner_at-e.ensures z.result (expr_of a.text.now x) y (simp (to_z-of_z f) at (c.put-n.ensures picks (begin (get_or heads (loop_of a.rows.now a.m) 0) (tally_of heads a.counts.now))))));
    }

returns_2 : tie.Need-returns-else-going
returns_2 c =
    let a = c.args in
    let z = c.value_of-z in
    let f : SFits w64 z.result = sfits_of z.type_inv in
    let e = row_of a.rows.now a.m in
    let x = operand_in a.kind (number e 1) in
    let y = z.ensures ∙ ap (λ n. value (expr_of a.text.now (operand_in a.kind n)) (store_of a.store.now)) c.start_at.ensures in
    record {
      long = c.requires.loop.room.long;
      acts = λ picks heads r l.
          let o = exec a.prices a.m.row (set_of a.text.now a.kind e) (state_of a.m a.store.now picks) in
          for_stops _ _ _ _ _ _ (partner_in e) o (sym c.going.ensures ∙ c.if-going.false) (put_value a.prices a.store.now true refl c.variable_at.ensures c.partner_at-e.ensures z.result (expr_of a.text.now x) y (simp (to_z-of_z f) at (c.put-n.ensures picks (tally_of heads a.counts.now))));
    }

pub for_row_spec : {M : Type 1} → statement M
for_row_spec =
    tie.close
    (tie.spec
    (λ c κs. search rules) (λ c κs. search rules)
    value-of-requires
    (λ c κs. search rules)
    put-requires
    (λ c κs. search rules)
    loop-at-requires
    begin-requires
    (λ c. search rules)
    returns
    (λ c. search rules)
    returns_2)
