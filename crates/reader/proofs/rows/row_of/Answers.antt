use Rattle.reader.proofs.RowsLaws.{meant, row_other, row_named}
use Rattle.reader.proofs.rows.row_of.Goals as goal

pub named_row-requires : goal.named_row-requires
named_row-requires c = let h = c.requires in (meant _ _ _ _ h.1 c.line_words-line.ensures, h.2)

pub returns-in-Keyword : goal.returns-in-Keyword
returns-in-Keyword c = row_named _ _ _ _ _ c.requires.1 c.line_words-line.ensures _ c.word.ensures _ _ c.in-Keyword.is c.named_row.ensures

pub returns-in_default : goal.returns-in_default
returns-in_default c = row_other _ _ _ _ _ c.requires.1 c.line_words-line.ensures c.word.result c.word.ensures c.in_default.not-Keyword
