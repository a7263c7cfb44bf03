-- `run_machine::do_row` meets its contract. Assumes nothing.
use mathlib.Core.Path.{◌≡◌, sym, ◌∙◌, ap, subst}
use lib.ListN.{get_or}
use borrow.Author.Rules.{rules}
use Rattle.rules_machine.specs.RowMachine.{turn}
use Rattle.table.specs.Code.{number, numbers_at}
use Rattle.run_actions.specs.States.{RoomAt}
use Rattle.run_machine.specs.Rows.{loop_of}
use Rattle.run_machine.proofs.do_row.Statement.{statement}
use Rattle.run_machine.proofs.do_row.Tie as tie

-- the loop's number
known : (c : tie.After-loop_at-k) → let a = c.args in c.loop_at-k.result ≡ loop_of a.rows.now a.m
known c = let a = c.args in c.loop_at-k.ensures ∙ ap (λ e. number (numbers_at a.rows.now e) 1) c.partner_at.ensures

begin-requires : tie.Need-begin-requires
begin-requires c κs = let s = c in subst (λ k. RoomAt k s.args.counts.now) (sym (known c.before)) s.requires.room

returns : tie.Need-returns
returns c =
    let k = known c.before.before.before.before.before.before in
    let b = rw k at c.begin.ensures in
    let t = rw k at c.count_turn.ensures in
    record { long = t.long; machine = c.on.ensures; same = λ heads r l. t.same heads r l ∙ ap (turn (get_or heads _ 0)) (b.same heads r l) }

pub do_row_spec : {M : Type 1} → statement M
do_row_spec =
    tie.close
    (tie.spec
    (λ c κs. search rules)
    (λ c κs. rw c.partner_at.ensures c.requires.end)
    begin-requires
    (λ c κs. c.begin.ensures.room)
    (λ c. search rules) (λ c κs. search rules)
    returns)
