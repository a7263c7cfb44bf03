-- `run_machine::while_row` meets its contract. Assumes nothing.
use mathlib.Core.Path.{◌≡◌, sym, ◌∙◌, ap, subst}
use borrow.Author.Rules.{rules}
use Rattle.table.specs.Code.{number, numbers_at}
use Rattle.run_actions.specs.States.{RoomAt}
use Rattle.run_machine.specs.Rows.{loop_of}
use Rattle.run_machine.proofs.while_row.Statement.{statement}
use Rattle.run_machine.proofs.while_row.Tie as tie

-- the loop's number
known : (c : tie.After-loop_at) → let a = c.args in c.loop_at.result ≡ loop_of a.rows.now a.m
known c = let a = c.args in c.loop_at.ensures ∙ ap (λ e. number (numbers_at a.rows.now e) 1) c.partner_at-e.ensures

begin-requires : tie.Need-begin-requires
begin-requires c κs = let s = c in subst (λ k. RoomAt k s.args.counts.now) (sym (known c.before)) s.requires.room

returns : tie.Need-returns
returns c = record {
  machine = rw c.partner_at-e.ensures at c.on.ensures;
  entry = rw (known c.before.before.before) at c.begin.ensures;
}

pub while_row_spec : {M : Type 1} → statement M
while_row_spec =
    tie.close
    (tie.spec
    (λ c κs. search rules)
    (λ c κs. rw c.partner_at-e.ensures c.requires.end)
    begin-requires
    (λ c κs. search rules)
    returns)
