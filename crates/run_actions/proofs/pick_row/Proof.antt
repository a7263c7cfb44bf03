-- `run_actions::pick_row` meets its contract. Assumes nothing.
use native.Mathlib.Numerals.{add-one}
use borrow.Author.Rules.{rules}
use Rattle.run_actions.proofs.Laws.{pick_spent, pick_one, pick_none}
use Rattle.run_actions.proofs.pick_row.Statement.{statement}
use Rattle.run_actions.proofs.pick_row.Tie as tie

returns : tie.Need-returns-then-left-price
returns c = λ store d. rw c.stopped.ensures (pick_spent c.args.prices _ _ _ _ _ _ c.if-left-price.true)

shared-slice-read-branch : tie.Need-bounds-picks-used
shared-slice-read-branch c = (c.after_byte-after.ensures.taken c.if-used-after.true).0

returns_2 : tie.Need-returns-then-used-after
returns_2 c =
    let at = c.args.m.row in
    let (byte, one) = c.after_byte-after.ensures.taken c.if-used-after.true in
    λ store d. pick_one c.args.prices _ _ _ _ _ _ _ _ c.if-left-price.false byte one (rw (← add-one at) c.branch-picks.ensures)

returns_3 : tie.Need-returns-else-used-after
returns_3 c = λ store d. rw c.stopped-else-used-after.ensures (pick_none c.args.prices _ _ _ _ _ _ c.if-left-price.false (c.after_byte-after.ensures.none c.if-used-after.false).0)

pub pick_row_spec : {M : Type 1} → statement M
pick_row_spec =
    tie.close
    (tie.spec
    (λ c κs. search rules) (λ c κs. search rules)
    returns
    shared-slice-read-branch
    (λ c. search rules) (λ c κs. search rules) (λ c κs. search rules)
    returns_2
    returns_3)
