-- One line more.
use borrow.Author.Rules.{rules}
use mathlib.Core.Path.{refl, ap, ◌∙◌}
use mathlib.Core.List.{[], ◌∷◌, ◌++◌}
use Prim.Native.Nat.{◌<◌, ◌+◌}
use lib.ListN.{length, take, length-map}
use Rattle.rules.specs.Report.{lines_of}
use Rattle.analysis_lines.specs.Coded.{line_in, lines_in}
use Rattle.analysis.proofs.Laws.{state_is}
use Rattle.analysis.proofs.Parts.{line_set}
use Rattle.analysis.proofs.tallies.lined.Goals as goal

pub returns : goal.returns
returns c =
    let a = c.args in
    let p = c.put_line.ensures in
    let h : a.t.loops < length (lines_in a.lines.now) = rw (length-map a.lines.now line_in) (search rules) in
    λ os. record { next = refl; long = search rules; value = λ ρ. state_is refl refl refl refl refl (ap (λ l. lines_of (take (a.t.loops + 1) l)) p ∙ line_set _ _ _ h ∙ ap (λ e. lines_of (take a.t.loops (lines_in a.lines.now)) ++ (record { row = a.t.next; step = a.trip.step; turns = a.turns; total = a.total; exact = e } ∷ [])) c.exact.ensures) refl refl }
