-- `table::past_else` meets its contract.
use borrow.Author.Rules.{rules}
use Rattle.rules.specs.Blocks.{view_of, kind_of}
use Rattle.table.specs.Code.{kind_by}
use Rattle.table.specs.Shapes.{past_else}
use Rattle.table.proofs.Laws.{kind_is, not_else}
use mathlib.Core.Path.{refl, sym, ap}
use Rattle.table.proofs.past_else.Statement.{statement}
use Rattle.table.proofs.past_else.Tie as tie

returns : tie.Need-returns-in-Else
unfolding kind_by view_of kind_of
returns c = sym (ap (λ k. past_else k c.args.at) (kind_is c.args.rows.now c.args.at c.requires c.tag_at.ensures c.in-Else.is))

returns_2 : tie.Need-returns-in_default
returns_2 c = rw (kind_is _ _ c.requires c.tag_at.ensures refl) (sym (not_else _ _ c.in_default.in_default-own.keys2 _))

pub past_else_spec : {M : Type 1} → statement M
past_else_spec = tie.close (tie.spec (λ c κs. search rules) (λ c. search rules) (λ c. search rules) returns returns_2)
