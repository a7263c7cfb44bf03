-- `explain_margin::place::place_of` meets its contract. Assumes nothing.
use borrow.Author.Rules.{rules}
use mathlib.Core.Path.{sym, ◌∙◌}
use borrow.Author.Tests.{eq-eqb, ne_eqb}
use Rattle.explain_margin.proofs.place.place_of.Statement.{statement}
use Rattle.explain_margin.proofs.place.place_of.Tie as tie

returns : tie.Need-returns-then-between
returns c = rw (sym c.between.ensures ∙ c.if-between.true)

returns_2 : tie.Need-returns-then-number-eq17
returns_2 c = rw (sym c.between.ensures ∙ c.if-between.false, eq-eqb _ _ c.if-number-eq17.true)

returns_3 : tie.Need-returns-then-between-2
returns_3 c =
    rw (sym c.between.ensures ∙ c.if-between.false, ne_eqb _ _ c.if-number-eq17.false, sym c.between-2.ensures ∙ c.if-between-2.true)

returns-4 : tie.Need-returns-then-number-eq19
returns-4 c =
    rw (sym c.between.ensures ∙ c.if-between.false, ne_eqb _ _ c.if-number-eq17.false, sym c.between-2.ensures ∙ c.if-between-2.false, eq-eqb _ _ c.if-number-eq19.true)

returns-5 : tie.Need-returns
returns-5 c =
    rw (sym c.between.ensures ∙ c.if-between.false, ne_eqb _ _ c.if-number-eq17.false, sym c.between-2.ensures ∙ c.if-between-2.false, ne_eqb _ _ c.if-number-eq19.false)

pub place_of_spec : {M : Type 1} → statement M
place_of_spec = tie.close (tie.spec (λ c κs. search rules) returns returns_2 (λ c κs. search rules) returns_3 returns-4 returns-5)
