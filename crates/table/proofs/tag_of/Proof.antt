-- `table::tag_of` meets its contract.
use mathlib.Core.Path.{sym}
use native.Mathlib.Omega.{arith}
use Rattle.table.proofs.Numbers.{tag_end, tag_set, tag_for, tag_move, tag_hold}
use Rattle.table.proofs.tag_of.Statement.{statement}
use Rattle.table.proofs.tag_of.Tie as tie

pub tag_of_spec : {M : Type 1} → statement M
tag_of_spec =
    tie.close
    (tie.spec
    (λ c. rw c.in-3.is)
    (λ c. rw c.in-7.is)
    (λ c. rw c.in-11.is)
    (λ c. rw c.in-16.is)
    (λ c. rw c.in-17.is)
    (λ c. rw c.in-18.is)
    (λ c. sym (tag_end c.args.op c.in-0.if-op-lt3-own.true))
    (λ c. sym (tag_set c.args.op (omega arith) c.in-4.if-op-lt7-own.true))
    (λ c. sym (tag_for c.args.op (omega arith) c.in-8.if-op-lt11-own.true))
    (λ c. sym (tag_move c.args.op (omega arith) c.in-12.if-op-lt16-own.true))
    (λ c. sym (tag_hold c.args.op (omega arith))))
