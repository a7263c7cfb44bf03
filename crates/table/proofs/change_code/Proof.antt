use native.Mathlib.Omega.{arith}
use borrow.Author.Rules.{rules}
use Rattle.table.proofs.change_code.Statement.{statement}
use Rattle.table.proofs.change_code.Tie as tie

pub change_code_spec : {M : Type 1} → statement M
change_code_spec =
    tie.close
    (tie.spec
    (λ c. search rules) (λ c. search rules) (λ c. search rules) (λ c. search rules)
    (λ c. record { same = rw c.in-Add.is; small = omega arith })
    (λ c. record { same = rw c.in-Sub.is; small = omega arith })
    (λ c. record { same = rw c.in-Mul.is; small = omega arith })
    (λ c. record { same = rw c.in-Div.is; small = omega arith }))
