-- `run_actions::cue_row` meets its contract. Assumes nothing.
use mathlib.Core.Bool.{false}
use Rattle.run_actions.proofs.Laws.{cue_spent, cue_done}
use borrow.Author.Rules.{rules}
use Rattle.run_actions.proofs.cue_row.Statement.{statement}
use Rattle.run_actions.proofs.cue_row.Tie as tie

returns : tie.Need-returns-then-left-price
returns c = λ store picks d n. rw c.ended.ensures (cue_spent c.args.prices _ _ _ _ _ _ _ false c.if-left-price.true)

returns_2 : tie.Need-returns
returns_2 c = λ store picks d n. rw c.on.ensures (cue_done c.args.prices _ _ _ _ _ _ _ _ c.if-left-price.false)

pub cue_row_spec : {M : Type 1} → statement M
cue_row_spec =
    tie.close
    (tie.spec
    (λ c κs. search rules)
    returns
    (λ c. search rules) (λ c κs. search rules)
    returns_2)
