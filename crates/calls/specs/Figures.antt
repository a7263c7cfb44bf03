-- What a report says as numbers, for callers that do not read text.
use Rattle.std.specs.Prelude.{◌≡◌, Bool, cond, List, [], ◌∷◌, map, ℕ, ◌-◌, ℤ, pos, negsuc, Result, Ok, Err, length, take, drop}
use Rattle.rules_steps.specs.declared.Step.{Step}
use Rattle.rules_steps.specs.declared.Step.TheVariants.{Add, Grow, Shrink, Unknown}
use Rattle.rules.specs.declared.Refusal.{Refusal}
use Rattle.rules.specs.Calls.{Judged, accepted, refuses, prices_of}
use Rattle.rules.specs.Figures.{Line}
use Rattle.rules.specs.Report.{first_end, second_end}
use Rattle.rules.specs.Scripts.{report_ticks, report_lines}
use Rattle.analysis_lines.specs.Coded.{first_lines}
use Rattle.calls.specs.declared.figures.Figures.{Figures}

-- a number that may be below 0, in 64 bits
unfoldable pub twos : ℤ → ℕ
twos (pos n) = n
twos (negsuc n) = 18_446_744_073_709_551_615 - n

-- STEP: add, grow or shrink
unfoldable pub step_number : Step → ℕ
step_number (Add a b) = 0
step_number (Grow f g) = 1
step_number (Shrink f g) = 2
step_number Unknown = 3

-- exact|most
abbrev pub flag_number : Bool → ℕ
flag_number b = cond b 1 0

-- `loop=ROW STEP END END TURNS TOTAL exact|most`
abbrev pub line_numbers : Line → List ℕ
line_numbers l =
    l.row ∷ step_number l.step ∷ twos (first_end l.step) ∷ twos (second_end l.step) ∷ l.turns ∷ l.total ∷ flag_number l.exact ∷ []

-- the first lines of a table are told; its others are as they were
pub record LinesTold (loops : ℕ) (old new : List (List ℕ)) : Type 0 where
  pub told : take loops new ≡ map line_numbers (first_lines old loops)
  pub rest : drop loops new ≡ drop loops old
  pub long : length new ≡ 16

-- the figures of a report, the loops' numbers in the first lines of the table
abbrev pub FiguresAs : List ℕ → Judged → List (List ℕ) → Result Figures Refusal → Type 0
FiguresAs prices (accepted script) new (Ok r) =
    (r.ticks ≡ report_ticks (prices_of prices) script) × (r.vars ≡ length script.ranges)
    × (r.loops ≡ length (report_lines script)) × (take r.loops new ≡ map line_numbers (report_lines script)) × (length new ≡ 16)
FiguresAs prices (accepted script) new (Err r) = ⊥
FiguresAs prices (refuses q p) new (Ok r) = ⊥
FiguresAs prices (refuses q p) new (Err r) = (r.number ≡ q) × (r.place ≡ p)
