use mathlib.Core.Path.{sym, ◌∙◌}
use mir.Syntax.{w32}
use mir.Val.{SFits}
use mir.Facts.{to_z-of_z}
use Rattle.rules.specs.Values.{lowest, highest}
use Rattle.std.proofs.Common.{rules}
use Rattle.reading.proofs.words.asks_expression.Goals as goal

pub returns-in-Number : goal.returns-in-Number
unfolding lowest highest
returns-in-Number c =
    let f : SFits w32 c.in-Number.z = search rules in
    let (m, h) = c.requires in
    let (a, _) = rw (sym c.word.ensures ∙ c.in-Number.is) at (m.means _ h) in
    (simp (to_z-of_z f) at c.inside.ensures) ∙ sym a
