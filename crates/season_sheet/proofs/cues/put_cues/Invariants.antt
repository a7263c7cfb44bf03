use mathlib.Core.Path.{◌≡◌}
use mathlib.Core.List.{List}
use Prim.Native.Nat.{ℕ, ◌≤◌}
use lib.ListN.{length, take}
use Rattle.rules_season.specs.Season.{cues_of}
use Rattle.table.specs.Code.{rows_of}
use Rattle.table.specs.Paired.{script_rows}
use Rattle.report.specs.Pieces.{Wrote}
use Rattle.season_sheet.proofs.cues.put_cues.Given as goal

-- the cue numbers of the rows before j are put
abbrev pub invariant-loop-j : goal.invariant-loop-j
invariant-loop-j l = (l.at ≤ l.j) × (length l.out ≡ length l.initial.out) × ((text : List ℕ) → Wrote (cues_of (take l.j (script_rows text (rows_of l.rows) l.count))) l.initial.out l.out l.at)
