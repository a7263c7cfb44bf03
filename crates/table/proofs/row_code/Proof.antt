-- `table::row_code` meets its contract.
use mathlib.Core.Path.{refl}
use native.Mathlib.Omega.{arith}
use mir.Syntax.{w32}
use mir.Val.{SFits}
use mir.Facts.{to_z-of_z}
use borrow.Author.Rules.{rules}
use Rattle.table.specs.Code.{kind_by, kind_in}
use Rattle.table.proofs.Numbers.{while_stands, do_stands, hold_stands}
use Rattle.table.proofs.row_code.Statement.{statement}
use Rattle.table.proofs.row_code.Tie as tie

off-row-requires : tie.Need-off_row-requires
off-row-requires c κs =
    let f : SFits w32 c.in-Off.k = search rules in
    let h = rw c.in-Off.is at c.requires in rw (to_z-of_z f) h.2

returns-10 : tie.Need-returns-in-Off
returns-10 c =
    let f : SFits w32 c.in-Off.k = search rules in
    rw c.in-Off.is (simp (to_z-of_z f) at c.off_row.ensures)

returns-11 : tie.Need-returns-in-Hold
returns-11 c = rw c.in-Hold.is (hold_stands _ _ c.test_row-in-Hold.ensures)

pub row_code_spec : {M : Type 1} → statement M
unfolding kind_in kind_by
row_code_spec =
    tie.close
    (tie.spec
    (λ c. search rules) (λ c. search rules) (λ c. search rules)
    (λ c. search rules)
    (λ c κs. let h = rw c.in-Set.is at c.requires in h.1)
    (λ c. search rules) (λ c κs. search rules) (λ c. search rules)
    (λ c. search rules)
    (λ c κs. let h = rw c.in-While.is at c.requires in (omega arith, h.1))
    (λ c. search rules)
    (λ c κs. let h = rw c.in-Do.is at c.requires in (omega arith, h.1))
    (λ c. search rules)
    (λ c κs. let h = rw c.in-For.is at c.requires in (h.1, h.2))
    (λ c. search rules)
    off-row-requires
    (λ c. search rules) (λ c κs. search rules)
    (λ c. rw c.in-End.is (record { kind = refl; test = tt; no_partner = refl }))
    (λ c. rw c.in-Else.is (record { kind = refl; test = tt; no_partner = refl }))
    (λ c. rw c.in-Pick.is (record { kind = refl; test = tt; no_partner = refl }))
    (λ c. rw c.in-Set.is c.set_row.ensures)
    (λ c. rw c.in-Move.is c.move_row.ensures)
    (λ c. rw c.in-Cue.is (record { kind = refl; test = tt; no_partner = refl }))
    (λ c. rw c.in-While.is (while_stands _ _ _ _ c.test_row.ensures))
    (λ c. rw c.in-Do.is (do_stands _ _ _ _ c.test_row-in-Do.ensures))
    (λ c. rw c.in-For.is c.for_row.ensures)
    returns-10
    returns-11)
