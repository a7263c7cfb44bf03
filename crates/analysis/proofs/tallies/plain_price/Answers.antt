use mathlib.Core.Path.{◌≡◌, refl, sym, subst}
use Rattle.rules.specs.Blocks.{view_of, kind_of}
use Rattle.rules.specs.Figures.{price}
use Rattle.table.specs.declared.Shape.{Shape}
use Rattle.table.specs.Code.{kind_by, numbers_at}
use Rattle.table.specs.Shapes.{shape_of, plain_of}
use Rattle.table.proofs.Laws.{kind_is}
use Rattle.analysis.proofs.Priced.{price_other}
use Rattle.analysis.proofs.tallies.plain_price.Goals as goal

pub returns-in-Cue : goal.returns-in-Cue
unfolding price kind_by view_of kind_of
returns-in-Cue c = λ text. rw (kind_is c.args.rows.now c.args.i c.requires.0 c.tag_at.ensures c.in-Cue.is)

pub returns-in_default : goal.returns-in_default
returns-in_default c = λ text.
    let a = c.args in
    let e = kind_is a.rows.now a.i c.requires.0 c.tag_at.ensures refl in
    subst (λ k. a.prices.arithmetic ≡ price a.prices (plain_of text k)) (sym e) (price_other a.prices text (numbers_at a.rows.now a.i) c.tag_at.result c.in_default.not-Cue (subst (λ k. shape_of k ≡ Shape.Plain) e c.requires.1))
