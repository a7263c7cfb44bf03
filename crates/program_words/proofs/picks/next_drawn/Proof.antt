-- `picks::next_drawn` meets its contract.
use borrow.Author.Rules.{rules}
use native.Mathlib.Omega.{arith}
use mathlib.Core.Path.{refl}
use Rattle.program_words.specs.Picks.{next_drawn}
use Rattle.program_words.proofs.picks.next_drawn.Statement.{statement}
use Rattle.program_words.proofs.picks.next_drawn.Tie as tie

returns : tie.Need-returns
unfolding next_drawn
returns c = (refl, omega arith)

pub next_drawn_spec : {M : Type 1} → statement M
next_drawn_spec = tie.close (tie.spec (λ c. search rules) (λ c. search rules) returns)
