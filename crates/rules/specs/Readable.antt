-- The numbers of a report, read back.
use Rattle.std.specs.Prelude.{◌≡◌, List, ℕ, ◌<◌, pos, length}
use Rattle.rules.specs.declared.Word.TheVariants.{Number}
use Rattle.rules.specs.Text.{value_from, word_of}
use Rattle.rules.specs.Figures.{Line}
use Rattle.rules.specs.Scripts.{All, Script, report_ticks, report_lines}
use Rattle.rules.specs.Report.{decimal, first_end, second_end, size}
use Rattle.rules.specs.Calls.{accepted, judged, prices_of}

-- 10^20
abbrev pub TwentyDigits : ℕ → Type 0
TwentyDigits n = n < 100_000_000_000_000_000_000

-- the digits of a number have its value
unfoldable pub DecimalValue : Type 0
DecimalValue = (n : ℕ) → TwentyDigits n → value_from 0 (decimal n) ≡ n

-- and they are a number as a file has it, "decimal, without plus or leading zeros"
unfoldable pub DecimalReads : Type 0
DecimalReads = (n : ℕ) → TwentyDigits n → word_of (decimal n) ≡ Number (pos n)

-- the numbers of a line
pub record ShortLine (l : Line) : Type 0 where
  pub row : TwentyDigits l.row
  pub first : TwentyDigits (size (first_end l.step))
  pub second : TwentyDigits (size (second_end l.step))
  pub turns : TwentyDigits l.turns
  pub total : TwentyDigits l.total

-- the numbers of a report
pub record ShortFigures (prices : List ℕ) (script : Script) : Type 0 where
  pub rows : TwentyDigits (length script.rows)
  pub loops : TwentyDigits (length (report_lines script))
  pub lines : All ShortLine (report_lines script)
  pub ticks : TwentyDigits (report_ticks (prices_of prices) script)

-- every number in the report of an accepted file is such a number, so that it is read back
unfoldable pub FiguresShort : Type 0
FiguresShort = (prices : List ℕ) (scratch : ℕ) (file : List ℕ) (script : Script) → judged prices scratch file ≡ accepted script → ShortFigures prices script
