-- `diftanew::ending_number` meets its contract. Assumes nothing.
use Rattle.rules.specs.Calls.{ending_number}
use borrow.Author.Rules.{rules}
use Rattle.diftanew.proofs.ending_number.Statement.{statement}
use Rattle.diftanew.proofs.ending_number.Tie as tie

returns : tie.Need-returns-in-Ended
unfolding ending_number
returns c = rw c.in-Ended.is

returns_2 : tie.Need-returns-in-Spent
unfolding ending_number
returns_2 c = rw c.in-Spent.is

returns_3 : tie.Need-returns-in-Range
unfolding ending_number
returns_3 c = rw c.in-Range.is

returns-4 : tie.Need-returns-in-NoPick
unfolding ending_number
returns-4 c = rw c.in-NoPick.is

pub ending_number_spec : {M : Type 1} → statement M
ending_number_spec =
    tie.close
    (tie.spec (λ c. search rules) (λ c. search rules) (λ c. search rules) (λ c. search rules) returns returns_2 returns_3 returns-4)
