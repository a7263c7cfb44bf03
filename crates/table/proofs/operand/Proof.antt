use borrow.Author.Rules.{rules, sfits_of}
use mir.Facts.{to_z-of_z}
use borrow.Author.Tests.{eq-eqb, ne_eqb}
use Rattle.table.proofs.operand.Statement.{statement}
use Rattle.table.proofs.operand.Tie as tie

pub operand_spec : {M : Type 1} → statement M
operand_spec =
    tie.close
    (tie.spec
    (λ c κs. search rules)
    (λ c. rw (to_z-of_z (sfits_of c.constant.type_inv), eq-eqb _ _ c.if-kind-eq-CONSTANT.true, c.constant.ensures))
    (λ c. search rules)
    (λ c. rw (ne_eqb _ _ c.if-kind-eq-CONSTANT.false, eq-eqb _ _ c.if-kind-eq-VARIABLE.true))
    (λ c. search rules) (λ c. search rules)
    (λ c. rw (ne_eqb _ _ c.if-kind-eq-CONSTANT.false, ne_eqb _ _ c.if-kind-eq-VARIABLE.false)))
