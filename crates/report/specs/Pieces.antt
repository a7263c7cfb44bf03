-- What the pieces of a report line spell, and what a writer does with a text.
use Rattle.std.specs.Prelude.{◌≡◌, List, [], ◌∷◌, map, ℕ, length}
use Rattle.rules.specs.Calls.{over}
use Rattle.rules.specs.Report.{decimal, report_key, rows_key, loops_key, loop_key, ticks_key, newline, gap}
use Rattle.report.specs.declared.pieces.Label.{Label}
use Rattle.report.specs.declared.pieces.Label.TheVariants.{Report, Rows, Loops, Loop, Ticks, Space, Newline, Minus, Add, Grow, Shrink, Exact, Most}
use Rattle.report.specs.declared.pieces.Piece.{Piece}
use Rattle.report.specs.declared.pieces.Piece.TheVariants.{Nothing, Fixed, Number}

-- the fixed texts
abbrev pub label_text : Label → List ℕ
label_text Report = report_key
label_text Rows = rows_key
label_text Loops = loops_key
label_text Loop = loop_key
label_text Ticks = ticks_key
label_text Space = gap
label_text Newline = newline
label_text Minus = 45 ∷ []
label_text Add = 97 ∷ 100 ∷ 100 ∷ []
label_text Grow = 103 ∷ 114 ∷ 111 ∷ 119 ∷ []
label_text Shrink = 115 ∷ 104 ∷ 114 ∷ 105 ∷ 110 ∷ 107 ∷ []
label_text Exact = 101 ∷ 120 ∷ 97 ∷ 99 ∷ 116 ∷ []
label_text Most = 109 ∷ 111 ∷ 115 ∷ 116 ∷ []

-- the bytes of a piece
abbrev pub piece_text : Piece → List ℕ
piece_text Nothing = []
piece_text (Fixed l) = label_text l
piece_text (Number n) = decimal n

-- the texts of a line's pieces
unfoldable pub piece_texts : List Piece → List (List ℕ)
piece_texts ps = map piece_text ps

-- a writer put the text at the start of its part, kept the rest, and answered the length
pub record Wrote (text old new : List ℕ) (r : ℕ) : Type 0 where
  pub count : r ≡ length text
  pub kept : new ≡ over text old
