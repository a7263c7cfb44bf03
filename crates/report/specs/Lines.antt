-- The report's lines, one after the other.
use Rattle.std.specs.Prelude.{List, [], ◌∷◌, ℕ, ℤ, pos, take}
use Rattle.rules.specs.declared.LoopLine.{LoopLine}
use Rattle.report.specs.declared.End.{End}
use Rattle.report.specs.declared.End.TheVariants.{Change, Factor}
use Rattle.rules.specs.Report.{joined, lines_of, key_line, loop_lines, report_key, rows_key, loops_key}

-- an end's number
abbrev pub end_number : End → ℤ
end_number (Change z) = z
end_number (Factor n) = pos n

-- `report=1`, `rows=R`, `loops=K`
unfoldable pub head_text : ℕ → ℕ → List ℕ
head_text rows loops = joined (key_line report_key 1 ∷ (key_line rows_key rows ∷ (key_line loops_key loops ∷ [])))

-- the lines of the first loops of a table of lines
unfoldable pub loops_text : List LoopLine → ℕ → List ℕ
loops_text lines loops = joined (loop_lines (lines_of (take loops lines)))
