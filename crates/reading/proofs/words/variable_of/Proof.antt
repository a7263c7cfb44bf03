use native.Mathlib.Omega.{arith}
use Rattle.reading.proofs.WordsLaws.{no_variable, small_variable}
use borrow.Author.Rules.{rules}
use Rattle.reading.proofs.words.variable_of.Statement.{statement}
use Rattle.reading.proofs.words.variable_of.Tie as tie

cast-result : tie.Need-overflow_cast-result
cast-result c = omega (arith, small_variable _ _ c.requires.1 (rw c.in-Variable.is at c.requires.2))

returns_2 : tie.Need-returns-in_default
returns_2 c = (no_variable c.args.w c.in_default.in_default-own.keys2).1

pub variable_of_spec : {M : Type 1} → statement M
variable_of_spec =
    tie.close (tie.spec (λ c. search rules) cast-result (λ c. search rules) returns_2)
