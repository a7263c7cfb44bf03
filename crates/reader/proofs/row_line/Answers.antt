use mathlib.Core.Path.{sym, ◌∙◌}
use Rattle.reader.proofs.RowLines.{row_there, row_yes, row_no}
use Rattle.reader.proofs.row_line.Goals as goal

pub row_of-requires : goal.row_of-requires
row_of-requires c = let h = c.requires in ((row_there _ 0 (sym c.keyed.ensures ∙ c.if-keyed.true)).ends, h.0, h.1)

pub returns-then-keyed : goal.returns-then-keyed
returns-then-keyed c = row_yes _ _ _ _ (sym c.keyed.ensures ∙ c.if-keyed.true) c.row_of.ensures

pub returns : goal.returns
returns c = row_no _ _ _ (sym c.keyed.ensures ∙ c.if-keyed.false)
