use Rattle.table.proofs.Numbers.{small, place_of, length_of}
use native.Mathlib.Omega.{arith}
use mir.Syntax.{w32}
use mir.Val.{SFits}
use mir.Facts.{to_z-of_z}
use borrow.Author.Rules.{rules}
use Rattle.table.proofs.operand_code.Statement.{statement}
use Rattle.table.proofs.operand_code.Tie as tie

shifted-requires : tie.Need-shifted-requires
shifted-requires c κs =
    let f : SFits w32 c.in-Constant.k = search rules in rw (to_z-of_z f) (rw c.in-Constant.is at c.requires)

returns : tie.Need-returns-in-Constant
returns c =
    let f : SFits w32 c.in-Constant.k = search rules in
    record { same = rw (c.shifted.ensures, c.in-Constant.is) (simp (to_z-of_z f)); small = omega arith }

returns_2 : tie.Need-returns-in-Variable
returns_2 c =
    record { same = rw (small _ (rw c.in-Variable.is at c.requires), c.in-Variable.is); small = omega arith }

returns_3 : tie.Need-returns-in-Expression
returns_3 c =
    let h = rw c.in-Expression.is at c.requires in
    record { same = rw (place_of _ _ h, length_of _ _ h, c.in-Expression.is); small = omega arith }

pub operand_code_spec : {M : Type 1} → statement M
operand_code_spec =
    tie.close
    (tie.spec
    (λ c. search rules)
    shifted-requires
    (λ c. search rules) (λ c. search rules) (λ c. search rules) (λ c. search rules)
    (λ c. search rules) (λ c. search rules) (λ c. search rules)
    returns
    returns_2
    returns_3)
