-- "The report": its text.
use Rattle.std.specs.Prelude.{Bool, true, false, cond, List, [], ◌∷◌, ◌++◌, ℕ, zero, suc, ◌+◌, ◌/◌, ◌%◌, ltb, ℤ, pos, negsuc, length}
use Rattle.rules_steps.specs.declared.Step.{Step}
use Rattle.rules_steps.specs.declared.Step.TheVariants.{Add, Grow, Shrink, Unknown}
use Rattle.rules.specs.declared.LoopLine.{LoopLine}
use Rattle.rules.specs.Figures.{Prices, Line}
use Rattle.rules.specs.Scripts.{Script, report_ticks, report_lines}
use Rattle.rules.specs.Text.{lf, space, minus}
pub use Rattle.rules.specs.File.{rows_key}
unfoldable pub use Rattle.rules.specs.Steps.{first_end}

-- a line as code holds it
abbrev pub line_of : LoopLine → Line
line_of l = record { row = l.row; step = l.step; turns = l.turns; total = l.total; exact = l.exact }

-- lines as code holds them
unfoldable pub lines_of : List LoopLine → List Line
lines_of [] = []
lines_of (l ∷ ls) = line_of l ∷ lines_of ls

-- a number in decimal, with at most k digits
unfoldable pub decimal_in : ℕ → ℕ → List ℕ
decimal_in zero n = []
decimal_in (suc k) n = cond (ltb n 10) ((48 + n) ∷ []) (decimal_in k (n / 10) ++ ((48 + n % 10) ∷ []))

-- 20 digits hold every 64-bit number
unfoldable pub decimal : ℕ → List ℕ
decimal n = decimal_in 20 n

-- `-` before a negative number
unfoldable pub sign : ℤ → List ℕ
sign (pos n) = []
sign (negsuc n) = minus ∷ []

-- the number after it
unfoldable pub size : ℤ → ℕ
size (pos n) = n
size (negsuc n) = suc n

-- texts one after the other
unfoldable pub joined : List (List ℕ) → List ℕ
joined [] = []
joined (t ∷ ts) = t ++ joined ts

-- STEP: add, grow or shrink
unfoldable pub step_name : Step → List ℕ
step_name (Add a b) = 97 ∷ 100 ∷ 100 ∷ []
step_name (Grow f g) = 103 ∷ 114 ∷ 111 ∷ 119 ∷ []
step_name (Shrink f g) = 115 ∷ 104 ∷ 114 ∷ 105 ∷ 110 ∷ 107 ∷ []
step_name Unknown = []

-- the second end of a step
unfoldable pub second_end : Step → ℤ
second_end (Add a b) = b
second_end (Grow f g) = pos g
second_end (Shrink f g) = pos g
second_end Unknown = pos 0

-- exact|most
unfoldable pub exact_name : Bool → List ℕ
exact_name true = 101 ∷ 120 ∷ 97 ∷ 99 ∷ 116 ∷ []
exact_name false = 109 ∷ 111 ∷ 115 ∷ 116 ∷ []

-- `report=`
abbrev pub report_key : List ℕ
report_key = 114 ∷ 101 ∷ 112 ∷ 111 ∷ 114 ∷ 116 ∷ 61 ∷ []

-- `loops=`
abbrev pub loops_key : List ℕ
loops_key = 108 ∷ 111 ∷ 111 ∷ 112 ∷ 115 ∷ 61 ∷ []

-- `loop=`
abbrev pub loop_key : List ℕ
loop_key = 108 ∷ 111 ∷ 111 ∷ 112 ∷ 61 ∷ []

-- `ticks=`
abbrev pub ticks_key : List ℕ
ticks_key = 116 ∷ 105 ∷ 99 ∷ 107 ∷ 115 ∷ 61 ∷ []

-- "Each line, ended by LF"
abbrev pub newline : List ℕ
newline = lf ∷ []

-- a space
abbrev pub gap : List ℕ
gap = space ∷ []

-- a line of a key and a number
unfoldable pub key_line : List ℕ → ℕ → List ℕ
key_line key n = joined (key ∷ (decimal n ∷ (newline ∷ [])))

-- `loop=ROW STEP END END TURNS TOTAL exact|most`
unfoldable pub loop_line : Line → List ℕ
loop_line l =
    let a : ℤ = first_end l.step in
    let b : ℤ = second_end l.step in
    joined (loop_key ∷ decimal l.row ∷ gap ∷ step_name l.step ∷ gap ∷ sign a ∷ decimal (size a) ∷ gap ∷ sign b ∷ decimal (size b) ∷ gap
    ∷ decimal l.turns ∷ gap ∷ decimal l.total ∷ gap ∷ exact_name l.exact ∷ newline ∷ [])

-- "for each loop in row order"
unfoldable pub loop_lines : List Line → List (List ℕ)
loop_lines [] = []
loop_lines (l ∷ ls) = loop_line l ∷ loop_lines ls

-- the report: R rows, the loops' lines in row order, T ticks
unfoldable pub report_text : ℕ → List Line → ℕ → List ℕ
report_text rows ls ticks =
    joined (key_line report_key 1 ∷ (key_line rows_key rows ∷ (key_line loops_key (length ls) ∷ (loop_lines ls ++ (key_line ticks_key ticks ∷ [])))))

-- of an accepted script
unfoldable pub script_report : Prices → Script → List ℕ
script_report π script = report_text (length script.rows) (report_lines script) (report_ticks π script)

-- no report is longer
abbrev pub longest_report : ℕ
longest_report = 2_089
