-- What a line of the table stands for: its numbers are the row; the step's tag and its two ends; the turns; the total; 1 for exact.
use Rattle.std.specs.Prelude.{◌≡◌, cond, List, map, ℕ, ◌≤◌, min, eqb, ℤ, pos, ◌-ℤ◌, length, get_or, take}
use Rattle.rules_steps.specs.declared.Step.{Step}
use Rattle.rules_steps.specs.declared.Step.TheVariants.{Add, Grow, Shrink, Unknown}
use Rattle.rules.specs.declared.LoopLine.{LoopLine}
use Rattle.rules.specs.Figures.{Line}
use Rattle.rules.specs.Report.{lines_of}

-- an end of a step that adds
abbrev pub end_in : ℕ → ℤ
end_in x = pos (min x 2_199_023_255_552) -ℤ pos 1_099_511_627_776

-- the step by its tag
unfoldable pub line_step : ℕ → ℕ → ℕ → Step
line_step t a b = cond (eqb t 0) (Add (end_in a) (end_in b)) (cond (eqb t 1) (Grow a b) (cond (eqb t 2) (Shrink a b) Unknown))

-- the line of seven numbers
unfoldable pub line_in : List ℕ → LoopLine
line_in e = record {
  row = get_or e 0 0;
  step = line_step (get_or e 1 0) (get_or e 2 0) (get_or e 3 0);
  turns = get_or e 4 0;
  total = get_or e 5 0;
  exact = eqb (get_or e 6 0) 1;
}

-- the lines that a table holds
abbrev pub lines_in : List (List ℕ) → List LoopLine
lines_in t = map line_in t

-- the first k of them
abbrev pub first_lines : List (List ℕ) → ℕ → List Line
first_lines t k = lines_of (take k (lines_in t))

-- a table of 16 lines, of which the first `loops` are read
pub record LineTable (loops : ℕ) (t : List (List ℕ)) : Type 0 where
  pub few : loops ≤ 16
  pub long : length t ≡ 16
